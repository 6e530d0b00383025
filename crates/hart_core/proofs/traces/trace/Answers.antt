use Rattle.hart_core.proofs.Lemmas.{sym, ◌∙◌, arith, trace_none, trace_next, trace_whole, no_calls}
use Rattle.hart_core.proofs.traces.trace.Goals as goal

pub loop-place-init : goal.loop-place-init
loop-place-init c = record {
  calls = trace_none ∙ (λ i. record { calls = sym c.new-calls.ensures.items i; events = 0 });
  unfinished = rw (c.new-unfinished.ensures.items, c.new-calls.ensures.items) no_calls;
}

pub loop-place-preserved : goal.loop-place-preserved
loop-place-preserved c =
    let n = c.loop-place.place in
    let least = c.min-length.ensures in
    let below = c.loop-place-test.true in record {
      calls =
          trace_next c.args.events.now c.args.outcomes.now n c.index-events-place.result c.index-outcomes-place.result c.loop-place.calls.items c.note.new.calls.items (omega (arith, least, below)) (omega (arith, least, below)) c.index-events-place.is c.index-outcomes-place.is c.loop-place.invariant.calls
          c.in_ok-note.ensures.calls;
      unfinished = c.in_ok-note.ensures.unfinished;
    }

pub returns : goal.returns
returns c =
    let past = c.loop-place-test.false in
    let within = c.loop-place.auto.place-end in
    (λ i. record { calls = c.new.ensures i; events = c.min-length.result })
    ∙ trace_whole c.args.events.now c.args.outcomes.now c.loop-place.place c.min-length.result c.loop-place.calls.items c.min-length.ensures (omega (arith, past, within)) c.loop-place.invariant.calls
