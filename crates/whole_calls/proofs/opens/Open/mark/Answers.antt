use Rattle.plain_tree.specs.declared.call.Call.TheVariants as calls
use Rattle.plain_tree.specs.declared.step.Action.TheVariants as steps
use Rattle.whole_calls.proofs.Lemmas.{type_of, open_at, open_made}
use Rattle.whole_calls.proofs.opens.Open.mark.Goals as goal

pub returns-in-GiveParent : goal.returns-in-GiveParent
returns-in-GiveParent c list =
    rw c.in-GiveParent.is (c.mark-in-GiveParent.ensures (steps.Open c.args.path.now c.args.flags) (open_at c.args.path.now c.args.flags c.in-GiveParent.field-1 list) c.args.heard.now)

pub returns-in-GiveEntered : goal.returns-in-GiveEntered
returns-in-GiveEntered c list =
    rw c.in-GiveEntered.is
    (c.mark-in-GiveEntered.ensures (steps.Open c.args.path.now c.args.flags) (open_made c.args.path.now c.args.flags c.in-GiveEntered.field-1 (type_of c.in-GiveEntered.field-2) list) c.args.heard.now)

pub returns-in-Ends : goal.returns-in-Ends
returns-in-Ends c list = rw c.in-Ends.is (c.mark-in-Ends.ensures (steps.Open c.args.path.now c.args.flags) (calls.Open c.args.path.now c.args.flags) list c.args.heard.now)
