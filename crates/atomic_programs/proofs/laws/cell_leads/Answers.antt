use Rattle.atomic_programs.proofs.Lemmas.{swaps, leads, lawful}
use Rattle.atomic_programs.proofs.Swapping.{places_one}
use Rattle.atomic_programs.proofs.laws.cell_leads.Goals as goal

pub returns : goal.returns
returns c = leads swaps lawful places_one
