use Rattle.console_threads.proofs.Lemmas.{◌≡◌, ◌≤◌, length, drop, ◌↔◌, starts_in}
use Rattle.console_threads.proofs.starts.is_started.Given as goal

abbrev pub invariant-loop-event : goal.invariant-loop-event
invariant-loop-event l = (l.seen ≤ length l.asked) × ((starts_in l.hart l.events ≡ l.asked) ↔ (starts_in l.hart (drop l.event-index l.events) ≡ drop l.seen l.asked))
