use Rattle.explain.proofs.Lemmas.{◌≡◌, drop, starts_climb}
use Rattle.explain.proofs.climbs.any_climbs.Given as goal

abbrev pub invariant-loop-place : goal.invariant-loop-place
invariant-loop-place l = starts_climb (drop l.place l.events) (drop l.place l.outcomes) ≡ starts_climb l.events l.outcomes
