use Rattle.explain.proofs.Lemmas.{◌≡◌, length, climbs}
use Rattle.explain.proofs.climbs.climbs.Given as goal

abbrev pub invariant-loop-element : goal.invariant-loop-element
invariant-loop-element l = climbs l.path ≡ climbs l.rest

abbrev pub decreases-loop-element : goal.decreases-loop-element
decreases-loop-element l = length l.rest
