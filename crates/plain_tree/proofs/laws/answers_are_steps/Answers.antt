use Rattle.plain_tree.proofs.Lemmas.{step_or_nothing}
use Rattle.plain_tree.proofs.laws.answers_are_steps.Goals as goal

pub returns : goal.returns
returns c = λ v t s a t' x. step_or_nothing v t s a t' x
