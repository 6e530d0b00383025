use Rattle.std.proofs.Common.{◌≡◌, ◌≤◌, length, filter, take}
use Rattle.image_reports.specs.Vocabulary.{is_block}
use Rattle.image_reports.proofs.usage.count_blocks.Given as goal

abbrev pub invariant-loop-i : goal.invariant-loop-i
invariant-loop-i l = (l.blocks ≡ length (filter is_block (take l.i l.numbers))) × (l.blocks ≤ l.i)
