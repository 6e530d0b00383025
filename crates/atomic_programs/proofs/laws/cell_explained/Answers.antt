use Rattle.atomic_programs.proofs.Swapping.{any_run}
use Rattle.atomic_programs.proofs.laws.cell_explained.Goals as goal

pub returns : goal.returns
returns c = any_run
