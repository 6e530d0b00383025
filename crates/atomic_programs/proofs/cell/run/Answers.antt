use Rattle.atomic_programs.proofs.Lemmas.{arith, subst, take, get_or, List, take_more, take_all, fresh, CameTo, swaps, event_of, events_of, outcome_of, outcomes_of, said, code, plain_of, Event, is_code, events_more, outcomes_more, came_none, came_more, came_shown, lawful}
use Rattle.atomic_programs.specs.declared.cell.Call.TheVariants as CallIs
use Rattle.atomic_programs.specs.declared.cell.Event.TheVariants as EventIs
use Rattle.atomic_programs.proofs.cell.run.Goals as goal

pub loop-event-init : goal.loop-event-init
loop-event-init g c =
    record {
      run = λ s e. rw c.in_ok-came.ensures.items (came_none swaps code is_code s _ e);
      len = c.in_ok-came.ensures.len;
      room = omega (arith, c.in_ok-came.ensures.capacity);
    }

-- one event more of the run with its history is one event more of the world
pub loop-event-preserved : goal.loop-event-preserved
loop-event-preserved g c =
    record {
      run = λ s e.
          let before : List Event = take c.loop-event.event-index c.args.events.now in
          let event : Event = get_or c.args.events.now c.loop-event.event-index (EventIs.Start 0 (CallIs.Swap 0)) in
          rw (take_more c.args.events.now c.loop-event.event-index (EventIs.Start 0 (CallIs.Swap 0)) c.loop-event-test.true, events_more before event, c.in-Ok.ensures.items, outcomes_more c.loop-event.came.items c.event-outcome.result)
          (came_more swaps code is_code s (events_of before) (event_of event) (outcomes_of c.loop-event.came.items) (outcome_of c.event-outcome.result) (plain_of c.loop-event.world) (plain_of c.event-outcome.new.self)
          (said c.event-outcome.result c.event-outcome.new.self.shared) (c.loop-event.invariant.run s e) c.event-outcome.ensures.honest c.event-outcome.ensures.makes);
      len = omega (arith, c.in-Ok.ensures.len, c.loop-event.invariant.len);
      room = omega (arith, c.push.ensures.capacity, c.loop-event.invariant.room);
    }

pub returns-clause-came : goal.returns-clause-came
returns-clause-came g c s e =
    subst (λ (z : List Event). CameTo swaps code s (events_of z) (outcomes_of c.loop-event.came.items) (plain_of c.loop-event.world))
    (take_all c.loop-event.event-index c.args.events.now (omega (arith, c.loop-event-test.false))) (c.loop-event.invariant.run s e)

pub returns-clause-shown : goal.returns-clause-shown
returns-clause-shown g c w inv idle e =
    came_shown swaps code is_code lawful w (events_of c.args.events.now) (outcomes_of c.loop-event.came.items) (plain_of c.loop-event.world) inv idle
    (subst (λ (z : List Event). CameTo swaps code (fresh swaps w) (events_of z) (outcomes_of c.loop-event.came.items) (plain_of c.loop-event.world))
    (take_all c.loop-event.event-index c.args.events.now (omega (arith, c.loop-event-test.false))) (c.loop-event.invariant.run (fresh swaps w) e))
