use Rattle.bench.proofs.Lemmas.{◌≡◌, ◌+◌, length}
use Rattle.bench.proofs.tables.all_referred_to.Given as goal

abbrev pub invariant-loop-number : goal.invariant-loop-number
invariant-loop-number l = length l.held + 2 ≡ l.number
