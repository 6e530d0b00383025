use Rattle.plain_tree.specs.declared.call.Call.TheVariants as calls
use Rattle.plain_tree.specs.declared.step.Action.TheVariants as steps
use Rattle.whole_calls.proofs.Lemmas.{reply_to, lower, drop, tail, done}
use Rattle.whole_calls.proofs.link.Link.mark.Goals as goal

pub returns-in-GiveNamed : goal.returns-in-GiveNamed
returns-in-GiveNamed c old list =
    rw c.in-GiveNamed.is (c.mark-in-GiveNamed.ensures (steps.Enter c.args.new.now) (drop c.in-GiveNamed.field-1 (tail list (done (calls.Link old c.args.new.now)))) c.args.heard.now)

pub returns-in-GiveFailed : goal.returns-in-GiveFailed
returns-in-GiveFailed c old list =
    rw c.in-GiveFailed.is
    (c.mark-in-GiveFailed.ensures (steps.Enter c.args.new.now) (lower old c.args.new.now c.in-GiveFailed.field-1 (reply_to (calls.Link old c.args.new.now) c.in-GiveFailed.field-2) list) c.args.heard.now)

pub returns-in-Ends : goal.returns-in-Ends
returns-in-Ends c old list = rw c.in-Ends.is (c.mark-in-Ends.ensures (steps.Enter c.args.new.now) (calls.Link old c.args.new.now) list c.args.heard.now)
