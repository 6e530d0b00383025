-- The meaning of the answers of the log and the tables.
use Rattle.std.specs.Prelude.{ℕ, List, Bool, true, false, Option, Some, None, Result, Ok, Err}
use Rattle.fs_machine.specs.Vocabulary.{GuardState, BufferState, Got, Progress, ExecResult, Waits, Ran, Stops}
use Rattle.buffer_cache.specs.declared.got.Got.TheVariants as got
use Rattle.group_log.specs.declared.commit.Progress.TheVariants as progress
use Rattle.fs_machine.specs.LogPart.{Outside, Passes, Fails}
use Rattle.fs_machine.specs.Tied.{bytes_of}

abbrev pub joined_as : {S : Type 0} → Option ℕ → S → ExecResult (Unit {0}) S
joined_as None s = Waits
joined_as (Some txn) s = Ran tt s

abbrev pub got_as : {S : Type 0} → Got → S → ExecResult (Option (List ℕ)) S
got_as (got.Held guard) s = Ran guard.value.content s
got_as got.Waits s = Waits

abbrev pub IfGotNone : Got → Type 0 → Type 0
IfGotNone (got.Held guard) P = Unit {0}
IfGotNone got.Waits P = P

abbrev pub read_as : {T E S : Type 0} → Result T E → GuardState BufferState → S → ExecResult (List ℕ) S
read_as (Ok _) guard s = Ran (bytes_of guard) s
read_as (Err _) guard s = Stops s

abbrev pub IfReadOk : {T E : Type 0} → Result T E → Type 0 → Type 0 → Type 0
IfReadOk (Ok _) P Q = P
IfReadOk (Err _) P Q = Q

abbrev pub committed_as : {S : Type 0} → Progress → S → ExecResult Bool S
committed_as progress.Waits s = Waits
committed_as progress.Wrote s = Ran false s
committed_as progress.Ended s = Ran true s
committed_as progress.Failed s = Stops s

-- what the device answered, by the result of its call and the blocks that it left
abbrev pub said_read : {T E : Type 0} → Result T E → List (List ℕ) → Outside
said_read (Ok _) after = Passes
said_read (Err _) after = Fails after

abbrev pub said_written : Progress → List (List ℕ) → Outside
said_written progress.Waits after = Passes
said_written progress.Wrote after = Passes
said_written progress.Ended after = Passes
said_written progress.Failed after = Fails after
