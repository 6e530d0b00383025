use Rattle.plain_tree.proofs.Lemmas.{◌<◌, arith, length, get_or_default}
use Rattle.plain_tree.proofs.tree.Tree.hart.Goals as goal

pub returns : goal.returns
returns c = let h : c.args.hart < length c.self.inside.harts = omega (arith, c.self.invariant) in rw (← c.self.view_is, c.from.ensures) (get_or_default _ _ _ _ h)
