use Rattle.hart_core.proofs.Lemmas.{◌≡◌, take, trace_in, AreUnfinished}
use Rattle.hart_core.proofs.traces.trace.Given as goal

abbrev pub invariant-loop-place : goal.invariant-loop-place
invariant-loop-place l = record {
  calls : trace_in (take l.place l.events) (take l.place l.outcomes) ≡ record { calls = l.calls.items; events = l.place };
  unfinished : AreUnfinished l.unfinished.items l.calls.items;
}
