use Rattle.script.proofs.Lemmas.{all_noted}
use Rattle.script.proofs.tail.tails_hold_the_last.Goals as goal

pub returns : goal.returns
returns g c = λ most events. all_noted most events
