use Rattle.atomic_programs.proofs.Lemmas.{swaps_lead}
use Rattle.atomic_programs.proofs.example_laws.swaps_lead.Goals as goal

pub returns : goal.returns
returns c = swaps_lead
