use Rattle.image_tree.proofs.Lemmas.{ℕ, ◌<◌, get_or}
use Rattle.damage_places.specs.Places.{IsLoggable}
use Rattle.damage_places.proofs.heads.first_outside.Given as goal

abbrev pub invariant-loop-i : goal.invariant-loop-i
invariant-loop-i l = (k : ℕ) → k < l.i → IsLoggable l.s (get_or l.blocks k 0)
