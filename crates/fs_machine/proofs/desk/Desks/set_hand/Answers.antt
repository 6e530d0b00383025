use Rattle.std.specs.Prelude.{length}
use Rattle.fs_machine.proofs.Lemmas.{◌≡◌, ◌∙◌, List, ap, arith, refl, sym, subst, change_at, set_change, with_hand, counted_same, no_desk}
use Rattle.fs_machine.specs.declared.desk.Desk.{Desk}
use Rattle.fs_machine.specs.Names.{AreCounted}
use Rattle.fs_machine.proofs.desk.Desks.set_hand.Goals as goal

pub invariant_of-self : goal.invariant_of-self
invariant_of-self c =
    let desks = c.self.inside.desks in
    let eight : length desks ≡ 8 = c.self.invariant.eight in
    let lt = c.requires in
    subst (λ (l : List Desk). AreCounted c.self.inside.counts l) (sym (set_change c.args.hart (with_hand c.args.place) desks no_desk (omega (arith, lt, eight))))
    (counted_same c.args.hart (with_hand c.args.place) c.self.inside.counts desks (λ _. refl) c.self.invariant)

pub returns : goal.returns
returns c =
    let desks = c.self.inside.desks in
    let eight : length desks ≡ 8 = c.self.invariant.eight in
    let lt = c.requires in
    set_change c.args.hart (with_hand c.args.place) desks no_desk (omega (arith, lt, eight)) ∙ ap (λ (l : List Desk). change_at c.args.hart (with_hand c.args.place) l) c.self.view_is
