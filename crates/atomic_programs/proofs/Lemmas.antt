-- What the proofs of this crate's functions use: its lemmas, and what they speak of.
pub use Rattle.atomic_programs.proofs.Vocabulary.{Block, CameTo, Carry, Cell, Dinode, Do, Get, Handover, IsKept, IsRun, List, Lock, Machine, None, OpWithAnswer, Option, P, PlainHonest, Put, Read, Ret, Some, Start, State, Step, Twice, Unlock, WentOn, [], answer_to, ap, arith, bind, blocks, code, counting, desk, erase, event_of, events_of, false, fresh, get_or, is_some, labels, length, load_or, look_back, lower, lowered, machine_of, outcome_of, outcomes_of, plain_makes, programs_in, read_or, refl, subst, swaps, swaps_above, sym, unmarked, upper, whole, with_record, ◌∙◌, ◌∷◌, ◌≡◌, ◌≤◌}
unfoldable pub use Rattle.atomic_programs.proofs.Vocabulary.{put}
pub use Rattle.atomic_programs.specs.CellCode.{Harts, MachineFits, call_of, plain_of, said}
pub use Rattle.atomic_programs.proofs.Harts.{events_more, is_code, outcomes_more}
pub use Rattle.atomic_programs.proofs.Swapping.{lawful}
pub use Rattle.atomic_programs.proofs.Counting.{asks_twice, goes_down}
pub use Rattle.atomic_programs.proofs.Leading.{leads}
pub use Rattle.atomic_programs.proofs.NotedRuns.{same_runs}
pub use Rattle.atomic_programs.proofs.Tables.{fits_here, honest_here, kept_first, kept_on, may_here, start_gives, step_gives}
pub use Rattle.atomic_programs.specs.Cell.{Passes, rest}
pub use Rattle.atomic_programs.specs.Toy.{Tick, control_of, exec, handler, kind, part_of}
pub use Rattle.std.proofs.Common.{take, vec_len}
pub use Rattle.atomic_programs.proofs.Advances.{hart_advances}
pub use Rattle.atomic_programs.proofs.Below.{begins_next, goes_on, part_begins}
pub use Rattle.atomic_programs.proofs.Done.{above_is_code, swaps_are_code, swaps_explained, swaps_lead, swaps_refined, swaps_within}
pub use Rattle.atomic_programs.proofs.Grab.{grabs_are_code, grabs_refined}
pub use Rattle.atomic_programs.proofs.Reached.{came_more, came_none, came_shown}
pub use Rattle.atomic_programs.proofs.Serving.{any_run, places_one}
pub use Rattle.atomic_programs.proofs.Steady.{steady}
pub use Rattle.atomic_programs.proofs.Tracing.{traced}
pub use Rattle.atomic_programs.proofs.Wards.{gifts_refined, gifts_within, gives_once}
pub use Rattle.atomic_programs.specs.Swap.{blocks_below}
pub use Rattle.atomic_programs.specs.Whole.{Give}
pub use Rattle.atomic_programs.specs.Within.{GiftIsWhole, SwapIsWhole}
pub use Rattle.atomic_programs.specs.declared.cell.Event.{Event}
pub use Rattle.std.proofs.lemmas.List.{take_all, take_more}
pub use Rattle.std.specs.Vec.{vec_capacity}
