use Rattle.std.proofs.Common.{vec_len}
use Rattle.layer_tests.proofs.buffers.there_is_one_more.Given as goal

abbrev pub decreases-loop-guard : goal.decreases-loop-guard
decreases-loop-guard g l = vec_len l.guards
