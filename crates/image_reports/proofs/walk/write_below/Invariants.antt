use Rattle.std.proofs.Common.{reverse}
use Rattle.image_reports.specs.Vocabulary.{tree_of}
use Rattle.image_reports.proofs.Walking.{Walked}
use Rattle.image_reports.proofs.walk.write_below.Given as goal

abbrev pub invariant-loop-line : goal.invariant-loop-line
invariant-loop-line g l = Walked l.version (tree_of l.tree).nodes l.long l.fn.start (reverse l.pending.items) (g.W.Write.contents l.fn.out) (g.W.Write.contents l.out)
