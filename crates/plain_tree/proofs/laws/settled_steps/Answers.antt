use Rattle.plain_tree.proofs.Lemmas.{settled_step}
use Rattle.plain_tree.proofs.laws.settled_steps.Goals as goal

pub returns : goal.returns
returns c = settled_step
