use Rattle.hart_core.proofs.Lemmas.{◌≡◌, ◌&&◌, false, any_below, busy_in, children_in}
use Rattle.inode_machine.specs.Exec.{is_at}
use Rattle.hart_core.proofs.harts.Harts.is_reserved.Given as goal

abbrev pub invariant-loop-other : goal.invariant-loop-other
invariant-loop-other g l = any_below l.other (λ c. busy_in l.self.calls c && is_at (children_in l.self.children c) l.hart) ≡ false
