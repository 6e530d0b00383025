use Rattle.plain_tree.proofs.Lemmas.{◌≡◌, ◌<◌, ℕ, true, get_or, OpenFileEntry, tree_of, has_fd}
use Rattle.plain_tree.proofs.tree.Tree.orphan.Given as goal

abbrev pub invariant-loop-i : goal.invariant-loop-i
invariant-loop-i l = (j : ℕ) (e : OpenFileEntry) → j < l.i → has_fd (tree_of l.self) (get_or l.self.files j e).id ≡ true
