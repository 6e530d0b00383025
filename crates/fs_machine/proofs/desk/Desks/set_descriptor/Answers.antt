use Rattle.std.specs.Prelude.{length}
use Rattle.fs_machine.proofs.Lemmas.{◌≡◌, ◌<◌, ◌∙◌, ℕ, List, None, IfSome, ap, arith, refl, sym, subst, get_or, change_at, set_change, with_descriptor, all_counted, counted_set, has_room, no_desk, some_counted}
use Rattle.fs_machine.specs.declared.desk.Desk.{Desk}
use Rattle.fs_machine.specs.Names.{AreCounted, one_name_more}
use Rattle.fs_machine.proofs.desk.Desks.set_descriptor.Goals as goal

pub count_less-requires : goal.count_less-requires
count_less-requires c =
    some_counted c.args.hart c.args.fd c.self.inside.counts c.self.inside.desks c.self.invariant c.requires.hart c.requires.fd (get_or (get_or c.self.inside.desks c.args.hart no_desk).descriptors c.args.fd None) refl

pub count_more-requires : goal.count_more-requires
count_more-requires c =
    let counts = c.self.inside.counts in
    let desks = c.self.inside.desks in
    let o = get_or (get_or desks c.args.hart no_desk).descriptors c.args.fd None in
    let some = all_counted counts o c.count_less.ensures.byte (some_counted c.args.hart c.args.fd counts desks c.self.invariant c.requires.hart c.requires.fd o refl) in
    subst (λ (l : List ℕ). IfSome c.args.place (λ p. p < 256 → get_or l p 0 < 255)) (sym c.count_less.ensures.counts)
    (has_room counts desks o c.args.place c.self.invariant c.count_less.ensures.byte some)

pub invariant_of-self : goal.invariant_of-self
invariant_of-self c =
    let counts = c.self.inside.counts in
    let desks = c.self.inside.desks in
    let o = get_or (get_or desks c.args.hart no_desk).descriptors c.args.fd None in
    let some = all_counted counts o c.count_less.ensures.byte (some_counted c.args.hart c.args.fd counts desks c.self.invariant c.requires.hart c.requires.fd o refl) in
    let counted = c.count_more.ensures.counts ∙ ap (one_name_more c.args.place) c.count_less.ensures.counts in
    let eight : length desks ≡ 8 = c.self.invariant.eight in
    let lt = c.requires.hart in
    let all = counted_set c.args.hart c.args.fd o c.args.place counts desks c.self.invariant c.requires.hart c.requires.fd refl c.count_less.ensures.byte some c.count_more.ensures.byte in
    subst (λ (l : List Desk). AreCounted c.count_more.new.counts l) (sym (set_change c.args.hart (with_descriptor c.args.fd c.args.place) desks no_desk (omega (arith, lt, eight))))
    (subst (λ (l : List ℕ). AreCounted l (change_at c.args.hart (with_descriptor c.args.fd c.args.place) desks)) (sym counted) all)

pub returns : goal.returns
returns c =
    let desks = c.self.inside.desks in
    let eight : length desks ≡ 8 = c.self.invariant.eight in
    let lt = c.requires.hart in
    set_change c.args.hart (with_descriptor c.args.fd c.args.place) desks no_desk (omega (arith, lt, eight)) ∙ ap (λ (l : List Desk). change_at c.args.hart (with_descriptor c.args.fd c.args.place) l) c.self.view_is
