use Rattle.plain_tree.proofs.Lemmas.{◌≡◌, drop, first_slot}
use Rattle.plain_tree.proofs.look.number_of.Given as goal

abbrev pub invariant-loop-slot : goal.invariant-loop-slot
invariant-loop-slot l = first_slot (drop l.slot-index l.slots) l.name ≡ first_slot l.slots l.name
