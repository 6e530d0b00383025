use Rattle.image_tree.proofs.Lemmas.{ℕ, ◌++◌, List, filter, take, is_block, Marks, IsOnce}
use Rattle.damage_places.proofs.once.mark_all.Given as goal

abbrev pub invariant-loop-i : goal.invariant-loop-i
invariant-loop-i l =
    (xs : List ℕ) → Marks l.fn.seen xs → IsOnce xs → Marks l.seen (xs ++ filter is_block (take l.i l.numbers)) × IsOnce (xs ++ filter is_block (take l.i l.numbers))
