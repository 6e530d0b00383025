use Rattle.atomic_programs.proofs.Lemmas.{swaps_refined}
use Rattle.atomic_programs.proofs.example_laws.swaps_refined.Goals as goal

pub returns : goal.returns
returns c = swaps_refined
