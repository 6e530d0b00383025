use Rattle.atomic_programs.proofs.Lemmas.{grabs_are_code}
use Rattle.atomic_programs.proofs.example_laws.grabs_are_code.Goals as goal

pub returns : goal.returns
returns c = grabs_are_code
