use Rattle.inode_data.proofs.Lemmas.{◌≡◌, ℕ, ◌<◌, ◌≤◌, take, get_or, direct}
use Rattle.inode_data.proofs.numbers.next_own.Given as goal

abbrev pub invariant-loop-i : goal.invariant-loop-i
invariant-loop-i l = (k : ℕ) → l.from ≤ k → k < l.i → get_or (take direct l.inode.addrs) k 0 ≡ 0
