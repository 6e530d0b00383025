use Rattle.image_tree.proofs.Lemmas.{◌≡◌, ℕ, ◌<◌, true, bit_of}
use Rattle.image_tree.proofs.marks.is_front_marked.Given as goal

abbrev pub invariant-loop-b : goal.invariant-loop-b
invariant-loop-b l = (k : ℕ) → k < l.b → bit_of l.bitmap k ≡ true
