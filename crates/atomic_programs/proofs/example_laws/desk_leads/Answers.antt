use Rattle.atomic_programs.proofs.Lemmas.{desk, leads, places_one}
use Rattle.atomic_programs.proofs.Serving.{lawful}
use Rattle.atomic_programs.proofs.example_laws.desk_leads.Goals as goal

pub returns : goal.returns
returns c = leads desk lawful places_one
