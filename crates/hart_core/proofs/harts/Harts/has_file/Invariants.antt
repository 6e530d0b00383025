use Rattle.hart_core.proofs.Lemmas.{◌≡◌, false, is_some, any_below, file_named}
use Rattle.hart_core.proofs.harts.Harts.has_file.Given as goal

abbrev pub invariant-loop-fd : goal.invariant-loop-fd
invariant-loop-fd g l = any_below l.fd (λ fd. is_some (file_named l.hart fd l.self.core.tables)) ≡ false
