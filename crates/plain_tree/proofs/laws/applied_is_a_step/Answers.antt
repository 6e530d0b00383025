use Rattle.plain_tree.proofs.Lemmas.{refl, applied, applied_step}
use Rattle.plain_tree.proofs.laws.applied_is_a_step.Goals as goal

pub returns : goal.returns
returns c = λ v t s id p good unused. applied_step v t s id (applied v t s id).answer (applied v t s id).tree p unused (record { is = refl; chosen = good })
