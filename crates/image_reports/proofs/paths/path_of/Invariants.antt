use Rattle.std.proofs.Common.{◌≡◌, ◌++◌, length}
use Rattle.image_reports.specs.Vocabulary.{elements}
use Rattle.image_reports.specs.Paths.{path_of}
use Rattle.image_reports.proofs.paths.path_of.Given as goal

abbrev pub invariant-loop-name : goal.invariant-loop-name
invariant-loop-name l = l.bytes.items ++ path_of (elements l.version l.rest) ≡ path_of (elements l.version l.path)

abbrev pub decreases-loop-name : goal.decreases-loop-name
decreases-loop-name l = length l.rest
