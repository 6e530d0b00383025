use Rattle.atomic_programs.proofs.Lemmas.{swaps_explained}
use Rattle.atomic_programs.proofs.example_laws.swaps_explained.Goals as goal

pub returns : goal.returns
returns c = swaps_explained
