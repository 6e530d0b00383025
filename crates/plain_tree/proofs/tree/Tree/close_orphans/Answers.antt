use Rattle.plain_tree.proofs.Lemmas.{◌∙◌, closed_without, no_orphan}
use Rattle.plain_tree.proofs.tree.Tree.close_orphans.Goals as goal

pub loop-i-preserved : goal.loop-i-preserved
loop-i-preserved c = closed_without c.loop-i.self c.remove_file.new.self c.in-Some.i c.remove_file.ensures c.in-Some.ensures ∙ c.loop-i.invariant

pub returns : goal.returns
returns c = no_orphan c.loop-i.self c.in_default.ensures ∙ c.loop-i.invariant
