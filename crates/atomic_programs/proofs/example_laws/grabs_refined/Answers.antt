use Rattle.atomic_programs.proofs.Lemmas.{grabs_refined}
use Rattle.atomic_programs.proofs.example_laws.grabs_refined.Goals as goal

pub returns : goal.returns
returns c = grabs_refined
