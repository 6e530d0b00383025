use Rattle.atomic_programs.proofs.Lemmas.{gifts_refined}
use Rattle.atomic_programs.proofs.example_laws.gifts_refined.Goals as goal

pub returns : goal.returns
returns c = gifts_refined
