use Rattle.plain_tree.proofs.Lemmas.{◌≡◌, ◌++◌, take, drop, Slot, first_free}
use Rattle.plain_tree.proofs.slots.free_slot.Given as goal

abbrev pub invariant-loop-i : goal.invariant-loop-i
invariant-loop-i l = (s : Slot) → first_free l.slots s ≡ take l.i l.slots ++ first_free (drop l.i l.slots) s
