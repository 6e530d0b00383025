use Rattle.std.proofs.Common.{length-set}
use Rattle.fs_machine.proofs.Lemmas.{◌≡◌, ◌<◌, ◌∙◌, ap, subst, arith, get_or, IfSome, List, Option, Some, slice_get, slice_get-get_or, Entry, change_at, one_less, free_set, set_change, used_below}
use Rattle.fs_machine.proofs.entries.Entries.count_down.Goals as goal

pub invariant_of-self : goal.invariant_of-self
invariant_of-self c =
    let es = c.self.inside.entries in
    let inside = c.self.invariant in
    let d : Entry = record { number = 0; references = 0 } in
    let e = get_or es c.args.place d in
    let long = inside.places in
    let within = c.requires.within in
    let at : slice_get es c.args.place ≡ Some e = slice_get-get_or es c.args.place d (omega (arith, long, within)) in
    let there = subst (λ (l : List Entry). slice_get l c.args.place ≡ Some e) c.self.view_is at in
    let some : 0 < e.references = subst (λ (o : Option Entry). IfSome o (λ (w : Entry). 0 < w.references)) there c.requires.some in
    record {
      places = length-set es c.args.place (one_less e) ∙ inside.places;
      within = inside.within;
      free = free_set es c.self.inside.used c.args.place (one_less e) (used_below es c.self.inside.used c.args.place e inside.free at some) inside.free;
    }

pub returns : goal.returns
returns c =
    let long = c.self.invariant.places in
    let within = c.requires.within in
    set_change c.args.place one_less c.self.inside.entries (record { number = 0; references = 0 }) (omega (arith, long, within))
    ∙ ap (λ (l : List Entry). change_at c.args.place one_less l) c.self.view_is
