use Rattle.image_tree.proofs.Lemmas.{◌≢◌, ℕ, ◌<◌, get_or, None}
use Rattle.image_tree.proofs.entries.are_entries.Given as goal

abbrev pub invariant-loop-s : goal.invariant-loop-s
invariant-loop-s l = (k : ℕ) → k < l.s → get_or l.slots k None ≢ None
