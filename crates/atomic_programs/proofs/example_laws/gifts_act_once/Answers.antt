use Rattle.atomic_programs.proofs.Lemmas.{gives_once}
use Rattle.atomic_programs.proofs.example_laws.gifts_act_once.Goals as goal

pub returns : goal.returns
returns c = gives_once
