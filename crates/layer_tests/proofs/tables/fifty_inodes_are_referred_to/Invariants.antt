use Rattle.fs_machine.proofs.Vocabulary.{◌≡◌, ◌+◌, length}
use Rattle.layer_tests.proofs.tables.fifty_inodes_are_referred_to.Given as goal

abbrev pub invariant-loop-number : goal.invariant-loop-number
invariant-loop-number g l = length l.held + 2 ≡ l.number
