use Rattle.std.proofs.Common.{◌≡◌, ◌++◌, drop}
use Rattle.migration.specs.Nodes.{spell_slots}
use Rattle.migration.proofs.slots.spell_slots.Given as goal

abbrev pub invariant-loop-s : goal.invariant-loop-s
invariant-loop-s l = l.content.items ++ spell_slots l.version (drop l.s l.slots) ≡ spell_slots l.version l.slots
