use Rattle.std.proofs.Common.{take}
use Rattle.image_reports.specs.Vocabulary.{Appends}
use Rattle.image_reports.specs.Shown.{hex}
use Rattle.image_reports.proofs.shown.write_hex.Given as goal

abbrev pub invariant-loop-byte : goal.invariant-loop-byte
invariant-loop-byte g l = Appends (g.W.Write.contents l.fn.out) (g.W.Write.contents l.out) (hex (take l.byte-index l.bytes))
