use Rattle.hart_runner.proofs.Vocabulary.{◌≡◌}
use Rattle.hart_runner.proofs.kernel.Kernel.go.Given as goal

abbrev pub invariant-loop : goal.invariant-loop
invariant-loop g l = (l.share.hart ≡ l.initial.share.hart) × (l.hart ≡ l.share.hart) × (l.share.tally.amount ≡ l.initial.share.tally.amount)
