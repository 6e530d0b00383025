use Rattle.mkfs.proofs.Lemmas.{◌≡◌, ◌++◌, drop, range_with_len}
use Rattle.mkfs.proofs.parts.set_rising.Given as goal

abbrev pub invariant-loop-k : goal.invariant-loop-k
invariant-loop-k l = l.numbers ≡ range_with_len l.first l.k ++ drop l.k l.fn.numbers
