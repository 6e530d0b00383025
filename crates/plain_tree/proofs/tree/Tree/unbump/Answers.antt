use Rattle.plain_tree.proofs.Lemmas.{◌≡◌, ◌∙◌, ap, subst, Option, Hold, Tree, tree_of, at_hold, drop_hold, lowered, held_far}
use Rattle.plain_tree.proofs.tree.Tree.unbump.Goals as goal
use Rattle.plain_tree.proofs.tree.Tree.unbump.Goals.{in-Some+in_ok-reach, in_default}

pub returns : goal.returns
returns c =
    let t : Tree = tree_of c.args.self.now in
    let lowered_so : tree_of c.match-hold.self ≡ at_hold t (t.holds c.args.hart) lowered = elim c.match-hold.branch [
      | in-Some+in_ok-reach w ↦ ap tree_of w.self-is ∙ held_far lowered t (tree_of w.reach.new.self) (tree_of w.lower.new.self) w.from-number.result w.in-Some.hold (t.holds c.args.hart) w.in_ok-reach.ensures.tree w.lower.ensures w.from-number.ensures w.in-Some.ensures
      | in_default w ↦ subst (λ (o : Option Hold). tree_of c.match-hold.self ≡ at_hold t o lowered) w.in_default.ensures (ap tree_of w.self-is)
    ] in
    c.set_hold.ensures ∙ ap (λ (x : Tree). drop_hold x c.args.hart) lowered_so
