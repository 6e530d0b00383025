use Rattle.locked_world.proofs.Lemmas.{◌≡◌, ◌≤◌, ◌++◌, drop, noted_outcomes}
use Rattle.locked_world.proofs.story.outcomes_told.Given as goal

abbrev pub invariant-loop-i : goal.invariant-loop-i
invariant-loop-i l = (l.outcomes.items ++ noted_outcomes (drop l.i l.notes) (drop l.place l.replies) ≡ noted_outcomes l.notes l.replies) × (l.place ≤ l.i)
