use Rattle.image_tree.proofs.Lemmas.{◌≢◌, ℕ, ◌<◌, block_number}
use Rattle.image_tree.proofs.sizes.has_blocks.Given as goal

abbrev pub invariant-loop-k : goal.invariant-loop-k
invariant-loop-k l = (j : ℕ) → j < l.k → block_number l.numbers j ≢ 0
