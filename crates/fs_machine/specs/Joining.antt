-- The meaning of a join for a descriptor.
use Rattle.std.specs.Prelude.{ℕ}
use Rattle.fs_machine.specs.Vocabulary.{ExecResult, Waits as ItWaits, Ran}
use Rattle.fs_machine.specs.Steps.{JoinResult as JoinedState, RefusesJoin, Joins}
use Rattle.fs_machine.specs.declared.shared.JoinedToWrite.{JoinedToWrite}
use Rattle.fs_machine.specs.declared.shared.JoinedToWrite.TheVariants.{Waits, Refused, Joined}

abbrev pub joined_to_write_as : {S : Type 0} → JoinedToWrite → S → ExecResult JoinedState S
joined_to_write_as Waits s = ItWaits
joined_to_write_as (Refused why) s = Ran (RefusesJoin why) s
joined_to_write_as (Joined txn number) s = Ran (Joins number) s

abbrev pub IfJoinWaits : JoinedToWrite → Type 0 → Type 0
IfJoinWaits Waits P = P
IfJoinWaits (Refused why) P = Unit {0}
IfJoinWaits (Joined txn number) P = Unit {0}

abbrev pub IfJoined : JoinedToWrite → (ℕ → Type 0) → Type 0
IfJoined Waits P = Unit {0}
IfJoined (Refused why) P = Unit {0}
IfJoined (Joined txn number) P = P txn
