use Rattle.directory.proofs.Lemmas.{◌≡◌, ◌++◌, drop, take, IndexedSlot, placed}
use Rattle.directory.proofs.index.first_behind.Given as goal

abbrev pub invariant-loop-at : goal.invariant-loop-at
invariant-loop-at l = (e : IndexedSlot) → e.place ≡ l.place → placed e l.slots ≡ take l.at l.slots ++ placed e (drop l.at l.slots)
