use Rattle.plain_tree.proofs.Lemmas.{◌≡◌, take, entries}
use Rattle.plain_tree.proofs.slots.entries.Given as goal

abbrev pub invariant-loop-slot : goal.invariant-loop-slot
invariant-loop-slot l = l.out.items ≡ entries l.version (take l.slot-index l.slots)
