use Rattle.plain_tree.proofs.Lemmas.{step_one}
use Rattle.plain_tree.proofs.one_end.steps_to_one.Goals as goal

pub returns : goal.returns
returns c = step_one
