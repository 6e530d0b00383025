use Rattle.atomic_programs.proofs.Lemmas.{any_run}
use Rattle.atomic_programs.proofs.example_laws.desk_explained.Goals as goal

pub returns : goal.returns
returns c = any_run
