use Rattle.atomic_programs.proofs.Lemmas.{◌≡◌, ◌≤◌, take, length, vec_len, vec_capacity, State, erase, CameTo, swaps, events_of, outcomes_of, code, plain_of}
use Rattle.atomic_programs.proofs.cell.run.Given as goal

abbrev pub invariant-loop-event : goal.invariant-loop-event
invariant-loop-event g l =
    record {
      run : (s : State swaps) → erase swaps code s ≡ plain_of l.initial.world → CameTo swaps code s (events_of (take l.event-index l.events)) (outcomes_of l.came.items) (plain_of l.world);
      len : vec_len l.came ≡ l.event-index;
      room : length l.events ≤ vec_capacity l.came;
    }
