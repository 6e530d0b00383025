use Rattle.plain_tree.specs.declared.call.Call.TheVariants as calls
use Rattle.plain_tree.specs.declared.step.Action.TheVariants as steps
use Rattle.whole_calls.proofs.mkdir.Mkdir.mark.Goals as goal

pub returns-in-Ends : goal.returns-in-Ends
returns-in-Ends c list = rw c.in-Ends.is (c.mark-in-Ends.ensures (steps.Mkdir c.args.path.now) (calls.Mkdir c.args.path.now) list c.args.heard.now)
