use Rattle.fs_machine.proofs.Lemmas.{◌≡◌, replicate, root_inode}
use Rattle.fs_machine.proofs.tables.places.Given as goal

abbrev pub invariant-loop : goal.invariant-loop
invariant-loop l = l.places.items ≡ replicate l.counter root_inode
