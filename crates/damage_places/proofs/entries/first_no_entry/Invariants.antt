use Rattle.image_tree.proofs.Lemmas.{◌≢◌, ℕ, ◌<◌, get_or, None}
use Rattle.damage_places.proofs.entries.first_no_entry.Given as goal

abbrev pub invariant-loop-s : goal.invariant-loop-s
invariant-loop-s l = (k : ℕ) → k < l.s → get_or l.slots k None ≢ None
