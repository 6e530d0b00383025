use Rattle.tree_histories.proofs.Lemmas.{due_on, stepped_not}
use Rattle.tree_histories.proofs.position.Position.step_on.Goals as goal

pub step_on_call-requires-2-clause-due : goal.step_on_call-requires-2-clause-due
step_on_call-requires-2-clause-due c =
    let k = stepped_not c.args.version c.args.base.now c.args.trace.now c.args.self.now c.step_on_call.new.self c.in_ok-step_on_call.field-0 c.if-branch.false c.in_ok-step_on_call.ensures in
    due_on c.args.version c.args.base.now c.args.trace.now c.args.self.now c.step_on_call.new.self c.args.due c.requires.at k c.requires.due

pub step_on_call-requires-in-loop-id-clause-due : goal.step_on_call-requires-in-loop-id-clause-due
step_on_call-requires-in-loop-id-clause-due c = due_on c.args.version c.args.base.now c.args.trace.now c.args.self.now c.loop-id.self c.args.due c.requires.at c.loop-id.invariant c.requires.due
