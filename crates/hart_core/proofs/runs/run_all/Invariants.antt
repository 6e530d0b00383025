use Rattle.hart_core.proofs.Lemmas.{◌≡◌, ◌≤◌, ◌+◌, ◌++◌, length, vec_len, vec_capacity, into_iter_items, into_iter_len, HasMarks, NotesRun}
use Rattle.hart_core.proofs.runs.run_all.Given as goal

abbrev pub invariant-loop-event : goal.invariant-loop-event
invariant-loop-event g l =
    record {
      events : l.fn.events.items ≡ l.yielded ++ into_iter_items l.event-iterator;
      history : HasMarks g.D.Device.contents g.D.Device.failures l.fn.world.sizes l.fn.world.harts l.yielded l.outcomes.items l.world.harts l.marks;
      notes : NotesRun g.D.Device.contents g.D.Device.failures g.O.Observer.Took l.fn.world.sizes l.fn.world.harts l.fn.observer l.yielded l.outcomes.items l.world.harts l.observer;
      sizes : l.world.sizes ≡ l.fn.world.sizes;
      rest : into_iter_len l.event-iterator ≡ length (into_iter_items l.event-iterator);
      room : vec_len l.outcomes + length (into_iter_items l.event-iterator) ≤ vec_capacity l.outcomes;
    }
