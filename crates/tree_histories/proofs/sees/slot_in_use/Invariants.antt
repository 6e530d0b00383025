use Rattle.tree_histories.proofs.Lemmas.{◌≡◌, drop, any_used}
use Rattle.tree_histories.proofs.sees.slot_in_use.Given as goal

abbrev pub invariant-loop-slot : goal.invariant-loop-slot
invariant-loop-slot l = any_used (drop l.slot-index l.slots) ≡ any_used l.slots
