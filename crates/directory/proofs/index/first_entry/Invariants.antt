use Rattle.directory.proofs.Lemmas.{◌≡◌, drop, nat_le, first_that}
use Rattle.directory.proofs.index.first_entry.Given as goal

abbrev pub invariant-loop-slot : goal.invariant-loop-slot
invariant-loop-slot l = first_that (λ e. nat_le 2 e.place) l.count l.slots ≡ first_that (λ e. nat_le 2 e.place) l.count (drop l.slot-index l.slots)
