use Rattle.image_tree.proofs.Lemmas.{◌≡◌, ℕ, ◌<◌, true, bit_of}
use Rattle.damage_places.proofs.marks.first_free.Given as goal

abbrev pub invariant-loop-b : goal.invariant-loop-b
invariant-loop-b l = (k : ℕ) → k < l.b → bit_of l.bitmap k ≡ true
