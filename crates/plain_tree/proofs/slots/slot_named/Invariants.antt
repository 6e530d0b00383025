use Rattle.plain_tree.proofs.Lemmas.{◌≡◌, ◌++◌, take, drop, cleared}
use Rattle.plain_tree.proofs.slots.slot_named.Given as goal

abbrev pub invariant-loop-i : goal.invariant-loop-i
invariant-loop-i l = cleared l.slots l.name ≡ take l.i l.slots ++ cleared (drop l.i l.slots) l.name
