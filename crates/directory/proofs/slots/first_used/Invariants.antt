use Rattle.directory.proofs.Lemmas.{◌≡◌, ℕ, ◌<◌, ◌≤◌, false, dirent_at, is_used}
use Rattle.directory.proofs.slots.first_used.Given as goal

abbrev pub invariant-loop-place : goal.invariant-loop-place
invariant-loop-place l = (k : ℕ) → l.from ≤ k → k < l.place → is_used (dirent_at l.version k l.block) ≡ false
