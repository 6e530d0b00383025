use Rattle.fs_machine.proofs.Vocabulary.{◌≡◌, length}
use Rattle.layer_tests.proofs.locks.fifty.Given as goal

abbrev pub invariant-loop-number : goal.invariant-loop-number
invariant-loop-number l = length l.values.items ≡ l.number
