use Rattle.plain_tree.proofs.Lemmas.{◌≡◌, ℕ, ◌<◌, true, Some, None, get_or, Slot, first_slot, is_marked}
use Rattle.plain_tree.proofs.named.new_among.Given as goal

abbrev pub invariant-loop-slot : goal.invariant-loop-slot
invariant-loop-slot l = (k : ℕ) (s : Slot) (n : ℕ) → k < l.slot-index → get_or l.slots k None ≡ Some s → first_slot l.slots s.name ≡ Some n → is_marked l.marks n ≡ true
