use Rattle.plain_tree.proofs.Lemmas.{◌≡◌, drop, file_in}
use Rattle.plain_tree.proofs.tree.Tree.file.Given as goal

abbrev pub invariant-loop-entry : goal.invariant-loop-entry
invariant-loop-entry l = file_in (drop l.entry-index l.entry-items) l.id ≡ file_in l.self.files l.id
