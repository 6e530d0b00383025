-- The words that most of this crate's other definitions use.
pub use Rattle.atomic_programs.specs.Calls.{AllHonest, Began, Begins, BeginsWhole, EventOutcome, DidEnd, DidRun, DidStop, DidWait, Event, FinishedCall, IsBeginning, IsHonest, Outcome, PlacedStep, Refused, Refuses, Run, Start, Started, State, Step, Theory, WasIdle, WasStopped, all_asked, changed, fresh, makes, next, outcomes, run, unchanged}
pub use Rattle.atomic_programs.specs.Faults.{one_more_fault}
pub use Rattle.atomic_programs.specs.Joined.{Act, ActOf, AtEnd, Below, Both, Handlers, Handover, Lasts, LowerLayer, holding, joined, lowered}
pub use Rattle.atomic_programs.specs.Logic.{Machine, OpWithAnswer, P, Wp, oldest_first}
pub use Rattle.atomic_programs.specs.Lowered.{Part, Starts, code_below, code_part, lowered_calls}
pub use Rattle.atomic_programs.specs.Machines.{answered, programs_in}
pub use Rattle.atomic_programs.specs.Operations.{Core, Makes, all_of, operations, operations_of}
pub use Rattle.atomic_programs.specs.Plain.{Code, Plain, SoundPlain, UnmarkedProgram, all_by_kind, erase}
pub use Rattle.atomic_programs.specs.Prog.{ExecResult, Do, OfNext, Prog, Ran, Ret, Stops, Waits, asks, bind, marked, once, plain, unmarked}
pub use Rattle.atomic_programs.specs.Whole.{Answer, Dinode, Enter, Exit, Give, Labels, Look, Op, Store, Take, World, Write, exec, if_held, whole}
unfoldable pub use Rattle.atomic_programs.specs.Whole.{put}
