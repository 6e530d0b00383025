use Rattle.atomic_programs.proofs.Lemmas.{swaps, steady}
use Rattle.atomic_programs.proofs.laws.cell_steady.Goals as goal

pub returns : goal.returns
returns c = steady swaps
