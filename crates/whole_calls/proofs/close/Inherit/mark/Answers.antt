use Rattle.plain_tree.specs.declared.step.Action.TheVariants as steps
use Rattle.whole_calls.proofs.Lemmas.{leaves}
use Rattle.whole_calls.proofs.close.Inherit.mark.Goals as goal

pub returns-in-Drops : goal.returns-in-Drops
returns-in-Drops c child = rw c.in-Drops.is (c.mark.ensures (steps.Inherit child) (leaves child) c.args.heard.now)
