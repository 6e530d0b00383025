use Rattle.atomic_programs.proofs.Lemmas.{refl, swaps_are_code, above_is_code}
use Rattle.atomic_programs.proofs.example_laws.swaps_are_code.Goals as goal

pub returns : goal.returns
returns c = record { swaps = swaps_are_code; above = above_is_code; programs = λ s. refl }
