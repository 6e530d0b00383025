use Rattle.tree_histories.proofs.Lemmas.{due_on}
use Rattle.tree_histories.proofs.position.Position.step_on_numbers.Goals as goal

pub place-requires-clause-limit : goal.place-requires-clause-limit
place-requires-clause-limit c = (due_on c.args.version c.args.base.now c.args.trace.now c.args.self.now c.loop-number.self c.args.due c.requires.at c.loop-number.invariant c.requires.due).least
