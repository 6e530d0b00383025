use Rattle.plain_tree.proofs.Lemmas.{◌∙◌, lowest_next}
use Rattle.plain_tree.proofs.tree.Tree.lowest.Goals as goal

pub loop-fd-preserved : goal.loop-fd-preserved
loop-fd-preserved c = lowest_next 16 c.loop-fd.fd _ _ c.loop-fd-test.true c.in-Some.ensures ∙ c.loop-fd.invariant
