use Rattle.whole_calls.proofs.Lemmas.{Do, unmarked, Leave}
use Rattle.whole_calls.proofs.ending.Freeing.mark.Goals as goal

pub returns-in-Frees : goal.returns-in-Frees
returns-in-Frees c s k heard = rw c.in-Frees.is (c.mark.ensures s (Do Leave unmarked (λ _. k)) heard)
