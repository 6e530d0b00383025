use Rattle.directory.proofs.Lemmas.{◌≡◌, ℕ, ◌+◌, ◌*◌, ◌<◌, u64_at}
use Rattle.directory.proofs.slots.is_clear.Given as goal

abbrev pub invariant-loop-i : goal.invariant-loop-i
invariant-loop-i l = (k : ℕ) → k < l.i → u64_at l.block (l.at + 8 * k) ≡ 0
