use Rattle.plain_tree.specs.declared.step.Action.TheVariants as steps
use Rattle.whole_calls.proofs.Lemmas.{left}
use Rattle.whole_calls.proofs.close.Close.mark.Goals as goal

pub returns-in-Drops : goal.returns-in-Drops
returns-in-Drops c fd heard = rw c.in-Drops.is (c.mark.ensures (steps.Close fd) (left fd) heard)
