use Rattle.directory.proofs.Lemmas.{◌≡◌, drop, first_gap}
use Rattle.directory.proofs.index.first_gap.Given as goal

abbrev pub invariant-loop-at : goal.invariant-loop-at
invariant-loop-at l = first_gap 0 l.slots ≡ first_gap l.at (drop l.at l.slots)
