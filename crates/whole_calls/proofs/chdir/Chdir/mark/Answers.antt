use Rattle.plain_tree.specs.declared.call.Call.TheVariants as calls
use Rattle.plain_tree.specs.declared.step.Action.TheVariants as steps
use Rattle.whole_calls.proofs.chdir.Chdir.mark.Goals as goal

pub returns-in-Ends : goal.returns-in-Ends
returns-in-Ends c v path list = rw c.in-Ends.is (c.mark-in-Ends.ensures (steps.Chdir path) (calls.Chdir path) list c.args.heard.now)
