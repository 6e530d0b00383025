use Rattle.plain_tree.proofs.Lemmas.{◌≡◌, ℕ, ◌<◌, true, tree_of, is_marked, LooksMarked}
use Rattle.plain_tree.proofs.tree.Tree.next_new.Given as goal

abbrev pub invariant-loop-directory : goal.invariant-loop-directory
invariant-loop-directory l = (d : ℕ) → d < l.directory → is_marked l.marks d ≡ true → LooksMarked (tree_of l.self) l.marks d
