use Rattle.image_tree.proofs.Lemmas.{◌≡◌, ◌≢◌, ℕ, ◌<◌, get_or}
use Rattle.image_tree.proofs.one_tree.end_at_root.Given as goal

abbrev pub invariant-loop-i : goal.invariant-loop-i
invariant-loop-i l = (k : ℕ) → k < l.i → get_or l.ups k 0 ≢ 0 → get_or l.jumps k 0 ≡ 1
