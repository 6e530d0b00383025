use Rattle.std.proofs.Common.{take}
use Rattle.image_reports.specs.Vocabulary.{Appends, flat_map}
use Rattle.image_reports.specs.Parts.{number_text}
use Rattle.image_reports.proofs.fields.write_numbers.Given as goal

abbrev pub invariant-loop-number : goal.invariant-loop-number
invariant-loop-number g l = Appends (g.W.Write.contents l.fn.out) (g.W.Write.contents l.out) (flat_map number_text (take l.number-index l.numbers))
