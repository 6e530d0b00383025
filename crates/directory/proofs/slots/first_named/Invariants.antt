use Rattle.directory.proofs.Lemmas.{◌≡◌, ℕ, ◌<◌, false, dirent_at, is_named}
use Rattle.directory.proofs.slots.first_named.Given as goal

abbrev pub invariant-loop-place : goal.invariant-loop-place
invariant-loop-place l = (k : ℕ) → k < l.place → is_named l.name (dirent_at l.version k l.block) ≡ false
