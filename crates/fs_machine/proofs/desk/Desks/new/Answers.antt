use Rattle.fs_machine.proofs.Lemmas.{sym, subst, replicate, counted_new}
use Rattle.fs_machine.specs.declared.desk.Desk.{Desk}
use Rattle.fs_machine.specs.Names.{AreCounted}
use Rattle.fs_machine.proofs.desk.Desks.new.Goals as goal

pub invariant_of-result : goal.invariant_of-result
invariant_of-result c = subst (λ (d : Desk). AreCounted (replicate 256 0) (replicate 8 d)) (sym c.new.ensures) counted_new
