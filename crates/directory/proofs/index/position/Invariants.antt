use Rattle.directory.proofs.Lemmas.{◌≡◌, ◌++◌, drop, take, without}
use Rattle.directory.proofs.index.position.Given as goal

abbrev pub invariant-loop-at : goal.invariant-loop-at
invariant-loop-at l = without l.place l.slots ≡ take l.at l.slots ++ without l.place (drop l.at l.slots)
