use Rattle.plain_tree.proofs.Lemmas.{◌≡◌, None, take, file_in}
use Rattle.plain_tree.proofs.tree.entry_of.Given as goal

abbrev pub invariant-loop-i : goal.invariant-loop-i
invariant-loop-i l = file_in (take l.i l.files) l.id ≡ None
