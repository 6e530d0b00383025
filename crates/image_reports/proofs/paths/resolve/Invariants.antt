use Rattle.std.proofs.Common.{◌≡◌, length}
use Rattle.image_reports.specs.Vocabulary.{elements, follow, root, tree_of}
use Rattle.image_reports.proofs.paths.resolve.Given as goal

abbrev pub invariant-loop-name : goal.invariant-loop-name
invariant-loop-name l = follow (tree_of l.tree).nodes l.at (elements l.version l.rest) ≡ follow (tree_of l.tree).nodes root (elements l.version l.path)

abbrev pub decreases-loop-name : goal.decreases-loop-name
decreases-loop-name l = length l.rest
