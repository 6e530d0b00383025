use Rattle.locked_world.proofs.Lemmas.{◌≡◌, ◌≤◌, ◌++◌, drop, noted_events}
use Rattle.locked_world.proofs.story.events_told.Given as goal

abbrev pub invariant-loop-i : goal.invariant-loop-i
invariant-loop-i l = (l.events.items ++ noted_events (drop l.i l.notes) (drop l.place l.calls) ≡ noted_events l.notes l.calls) × (l.place ≤ l.i)
