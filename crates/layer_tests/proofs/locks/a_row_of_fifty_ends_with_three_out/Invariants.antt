use Rattle.fs_machine.proofs.Vocabulary.{◌≡◌, length, IsNumbered}
use Rattle.layer_tests.proofs.locks.a_row_of_fifty_ends_with_three_out.Given as goal

abbrev pub invariant-loop-number : goal.invariant-loop-number
invariant-loop-number g l = record { count : length l.row ≡ 50; numbered : IsNumbered l.row }
