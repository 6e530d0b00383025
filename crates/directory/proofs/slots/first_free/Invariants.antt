use Rattle.directory.proofs.Lemmas.{◌≡◌, ℕ, ◌<◌, false, dirent_at, is_free}
use Rattle.directory.proofs.slots.first_free.Given as goal

abbrev pub invariant-loop-place : goal.invariant-loop-place
invariant-loop-place l = (k : ℕ) → k < l.place → is_free (dirent_at l.version k l.block) ≡ false
