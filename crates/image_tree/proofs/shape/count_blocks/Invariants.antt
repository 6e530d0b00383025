use Rattle.image_tree.proofs.Lemmas.{◌≡◌, ◌≤◌, length, filter, take, is_block}
use Rattle.image_tree.proofs.shape.count_blocks.Given as goal

abbrev pub invariant-loop-i : goal.invariant-loop-i
invariant-loop-i l = (l.blocks ≡ length (filter is_block (take l.i l.numbers))) × (l.blocks ≤ l.i)
