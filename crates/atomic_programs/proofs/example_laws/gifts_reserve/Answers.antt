use Rattle.atomic_programs.proofs.Lemmas.{refl, put}
use Rattle.atomic_programs.proofs.example_laws.gifts_reserve.Goals as goal

pub returns : goal.returns
unfolding put
returns c = record { outcomes = refl; history = refl }
