use Rattle.tree_histories.proofs.Lemmas.{due_on, placed_bad}
use Rattle.tree_histories.proofs.position.Position.step_on_call.Goals as goal

pub step_on_numbers-requires-clause-due : goal.step_on_numbers-requires-clause-due
step_on_numbers-requires-clause-due c =
    let k = placed_bad c.args.version c.args.base.now c.args.trace.now c.args.self.now c.place.new.self c.args.id c.args.preferred c.args.wish c.args.due.limit c.in_ok-place.field-0 c.in-BadChoice.is c.in_ok-place.ensures in
    due_on c.args.version c.args.base.now c.args.trace.now c.args.self.now c.place.new.self c.args.due c.requires.at k c.requires.due
