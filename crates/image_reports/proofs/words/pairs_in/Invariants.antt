use Rattle.std.proofs.Common.{◌≡◌, length}
use Rattle.image_reports.specs.Words.{pairs_in}
use Rattle.image_reports.proofs.Pairs.{with_front}
use Rattle.image_reports.proofs.words.pairs_in.Given as goal

abbrev pub invariant-loop-rest : goal.invariant-loop-rest
invariant-loop-rest l = with_front l.bytes.items (pairs_in l.rest) ≡ pairs_in l.digits

abbrev pub decreases-loop-rest : goal.decreases-loop-rest
decreases-loop-rest l = length l.rest
