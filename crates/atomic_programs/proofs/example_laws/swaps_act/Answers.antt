use Rattle.atomic_programs.proofs.Lemmas.{refl, put}
use Rattle.atomic_programs.proofs.example_laws.swaps_act.Goals as goal

pub returns : goal.returns
unfolding put
returns c = refl
