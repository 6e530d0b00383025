use Rattle.plain_tree.specs.declared.call.Call.TheVariants as calls
use Rattle.plain_tree.specs.declared.step.Action.TheVariants as steps
use Rattle.whole_calls.proofs.Lemmas.{face_of, gave_parent}
use Rattle.whole_calls.proofs.unlink.Unlink.mark.Goals as goal

pub returns-in-GiveParent : goal.returns-in-GiveParent
returns-in-GiveParent c list =
    rw c.in-GiveParent.is
    (c.mark-in-GiveParent.ensures (steps.Unlink c.args.path.now) (gave_parent c.args.path.now list c.in-GiveParent.field-1 (face_of c.in-GiveParent.field-2)) c.args.heard.now)

pub returns-in-Ends : goal.returns-in-Ends
returns-in-Ends c list = rw c.in-Ends.is (c.mark-in-Ends.ensures (steps.Unlink c.args.path.now) (calls.Unlink c.args.path.now) list c.args.heard.now)
