use Rattle.whole_calls.proofs.Lemmas.{refl}
use Rattle.whole_calls.proofs.ending.Freeing.step.Goals as goal

pub returns-in-Join : goal.returns-in-Join
returns-in-Join c text k = rw c.in-Join.is refl
