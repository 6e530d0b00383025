use Rattle.image_tree.proofs.Lemmas.{◌≢◌, ℕ, ◌<◌, get_or}
use Rattle.damage_places.proofs.repeats.place_of.Given as goal

abbrev pub invariant-loop-k : goal.invariant-loop-k
invariant-loop-k l = (j : ℕ) → j < l.k → get_or l.numbers j 0 ≢ l.b
