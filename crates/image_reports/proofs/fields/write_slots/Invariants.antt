use Rattle.std.proofs.Common.{take}
use Rattle.image_reports.specs.Vocabulary.{Appends, flat_map}
use Rattle.image_reports.specs.Parts.{slot_line}
use Rattle.image_reports.proofs.fields.write_slots.Given as goal

abbrev pub invariant-loop-slot : goal.invariant-loop-slot
invariant-loop-slot g l = Appends (g.W.Write.contents l.fn.out) (g.W.Write.contents l.out) (flat_map slot_line (take l.slot-index l.slots))
