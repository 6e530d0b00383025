use Rattle.inode_data.proofs.Lemmas.{◌≡◌, ℕ, ◌<◌, ◌≤◌, get_or, numbers_in}
use Rattle.inode_data.proofs.numbers.next_listed.Given as goal

abbrev pub invariant-loop-i : goal.invariant-loop-i
invariant-loop-i l = (k : ℕ) → l.from ≤ k → k < l.i → get_or (numbers_in l.table) k 0 ≡ 0
