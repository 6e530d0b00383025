use Rattle.image_tree.proofs.Lemmas.{◌≢◌, ℕ, ◌<◌, block_number}
use Rattle.damage_places.proofs.sizes.first_hole.Given as goal

abbrev pub invariant-loop-k : goal.invariant-loop-k
invariant-loop-k l = (j : ℕ) → j < l.k → block_number l.numbers j ≢ 0
