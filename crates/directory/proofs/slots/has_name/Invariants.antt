use Rattle.directory.proofs.Lemmas.{◌≡◌, ℕ, ◌+◌, ◌*◌, ◌<◌, ◌≤◌, slice_index, u64_at}
use Rattle.directory.proofs.slots.has_name.Given as goal

abbrev pub invariant-loop-i : goal.invariant-loop-i
invariant-loop-i l = (k : ℕ) → 1 ≤ k → k < l.i → u64_at l.slots (l.at + 8 * k) ≡ slice_index l.words.words k
