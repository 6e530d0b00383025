use Rattle.atomic_programs.proofs.Lemmas.{swaps, traced}
use Rattle.atomic_programs.proofs.laws.cell_traced.Goals as goal

pub returns : goal.returns
returns c = traced swaps
