-- What this crate's proofs speak of: its own definitions, and what the crates below and the library call things.
pub use Rattle.std.proofs.Common.{Bool, List, None, Option, Some, [], ap, append_assoc, arith, false, get_or, get_or-set_other, get_or-set_same, if◌then◌else◌, inl, inr, length, length-set, nat_eq, nat_lt, refl, set, slice_get, subst, suc, sym, true, zero, ℕ, ◌%◌, ◌++◌, ◌+◌, ◌-◌, ◌/◌, ◌<◌, ◌∙◌, ◌∷◌, ◌≡◌, ◌≢◌, ◌≤◌, ◌⊎◌}
pub use Rattle.atomic_programs.specs.Prog.{Broke, ExecResult, Do, Ended, OfNext, OperationResult, Prog, Ran, Ret, StillWaits, Stops, Waits, WentOn, advance, asks, bind, exec_result_in, marked, moved_in, once, plain, unmarked, went}
pub use Rattle.atomic_programs.specs.Logic.{Fine, Goes, Good, Grown, Halts, Laws, Machine, OpWithAnswer, P, PlacesOne, Safe, Wp, oldest_first, onto, own, placed_with}
pub use Rattle.atomic_programs.specs.Calls.{AllHonest, Began, Begins, BeginsWhole, Begun, EventOutcome, DidEnd, DidRun, DidStop, DidWait, Ends, Event, FinishedCall, HonestStep, IsBeginning, IsHonest, Lawful, Made, Outcome, PlacedStep, Refused, Refuses, Right, Run, Sound, Start, Started, State, Step, Theory, WasIdle, WasStopped, all_asked, all_told, asked, begun, busy_in, changed, fresh, hart_of, is_some, makes, moved, next, outcomes, placed, run, start_of, start_run, step_prog, step_run, step_unless, told, tried, unchanged, with_answer}
pub use Rattle.atomic_programs.specs.Explained.{Chain, Holds, In, IsBlocked, IsExplained, IsOfCall, IsRising, Leads, Steady, is_quiet, of_hart, steps_of}
pub use Rattle.std.proofs.lemmas.Bool.{eq-eqb, eqb-false, eqb-true, ltb-true, ne_eqb}
pub use Rattle.atomic_programs.specs.Joined.{ActOf, AtEnd, Atomic, Below, Both, Handlers, Handover, Lasts, LowerLayer, LowerLaws, both, holding, joined, lowered, placed_at, ran_to}
pub use Rattle.atomic_programs.specs.Plain.{Code, HartMade, IsCode, MayOf, Plain, PlainHonest, PlainHonestStep, PlainMade, SoundPlain, UnmarkedProgram, all_by_kind, began_in, by_kind, erase, hart_begun, hart_moved, hart_prog, hart_start, hart_step, hart_tried, plain_begun, plain_makes, plain_moved, plain_outcomes, plain_prog, plain_run, plain_start, plain_step, plain_tried, plain_unless, prog_of, put_back}
pub use Rattle.atomic_programs.specs.Operations.{Core, IsCore, IsRun, bare, bare_calls, operations, operations_of}
pub use Rattle.atomic_programs.specs.Whole.{Dinode, Exit, Keeps, Labels, if_held, take_if, whole, written}
unfoldable pub use Rattle.atomic_programs.specs.Whole.{put}
pub use Rattle.atomic_programs.specs.Lowered.{AllAtomic, BeginsBoth, CanBegin, IsPart, Part, Starts, StartsBoth, all_below, began_both, began_to, code_below, code_part, lowered_calls}
pub use Rattle.atomic_programs.specs.Blocks.{Base, Block, Carry, Fails, Get, GetPart, InHand, IsOut, IsTied, Join, Leave, Lock, Op, Outside, Passes, Put, PutPart, Read, Same, Shows, Unlock, World, act, at, blocks, bytes_if, fetch, get_if, handler, hart_count, load_or, lock_if, look_back, read_if, read_or, record_of, with_record, write_parts}
pub use Rattle.atomic_programs.specs.OfWhole.{Calls, begins_at_once, core, operation_labels, theory}
pub use Rattle.atomic_programs.specs.Cell.{Answer, Call, Cell, Drop, Fetch, Inv, LeavesIt, LeavesOne, Look, MayWait, Refusal, Saw, Store, Swapped, Take, begin_if, exec, failed, fetch_if, fits, go, honest, machine, may, own_of, placed_by, program, store_if, swaps, with_value}
pub use Rattle.atomic_programs.specs.Machines.{moved_to, program_at, programs_in}
pub use Rattle.atomic_programs.specs.Noted.{After, IsWhole, Note, Notes, Places, Runs, SameRuns, Within, entries_of, entry_of, noted, noted_calls, noted_steps, with_notes}
pub use Rattle.atomic_programs.specs.Spending.{Affords, AtomicWithin, Budget, Tracks}
pub use Rattle.atomic_programs.specs.Swap.{HasNothing, Mine, Swap, calls, code_above, labels, swaps_above}
pub use Rattle.atomic_programs.specs.Below.{Running}
pub use Rattle.atomic_programs.specs.CellCode.{code, event_of, events_of, machine_of, outcome_of, outcomes_of}
pub use Rattle.atomic_programs.specs.Desk.{Ask, Asked, Busy, Collect, Empty, Free, Gave, Give, Given, Got, Hand, Help, Helped, Idle, IsAsked, IsServedAs, Others, Request, Reset, Serve, Served, Slot, Wipe, Wiped, collect_if, desk, is_for, reserve_if, serve_if, served, start_call, start_if, unless}
pub use Rattle.atomic_programs.specs.Grab.{Above, GetBits, Grab, Hold, Kept, LowOp, Picks, PutBits, TiedAt, Zero, bits_if, bits_in, exec_above, exec_code, first, grab_at, grabbed, grabs, grabs_above, grabs_code, grabs_part, hold_if, holder, lock_in, lock_of, low, low_may, may_code, rest, shared_of}
pub use Rattle.atomic_programs.specs.Lifting.{AllLift, BeginsSome, IfRan, Lifts, Uses, with_more}
pub use Rattle.atomic_programs.specs.Marked.{carrying, handlers_with_marks, keeping, keeping_code, lower_with_marks, with_marks}
pub use Rattle.atomic_programs.specs.Shown.{CameTo, Shown}
pub use Rattle.atomic_programs.specs.Tables.{IsKept, PlaceFits, plain_at}
pub use Rattle.atomic_programs.specs.Toy.{Twice, answer_to, counting, lower, upper}
pub use Rattle.atomic_programs.specs.Trace.{EventReport, IsTraced, happened}
pub use Rattle.atomic_programs.specs.Wards.{Fill, LowAnswer, Peek, Release, gifts, gifts_above, given, reserved, start, unless_ward}
pub use Rattle.atomic_programs.specs.Within.{gifts_noted, swaps_noted}
pub use Rattle.atomic_programs.specs.declared.cell.CellKind.{CellKind}
pub use Rattle.atomic_programs.specs.declared.machines.Stepped.{Stepped}
pub use Rattle.atomic_programs.specs.declared.machines.Stepped.TheVariants.{Done, Stopped}
pub use Rattle.std.proofs.lemmas.List.{set-set}
pub use Rattle.std.proofs.lemmas.Option.{get_or_from_slice_get, slice_get_within}
