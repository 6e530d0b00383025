-- The meaning of the answers of the tables.
use Rattle.std.specs.Prelude.{ℕ, Option, Some, None, Result, Ok, Err}
use Rattle.fs_machine.specs.Vocabulary.{GuardState, ExecResult, Waits, Ran}
use Rattle.fs_machine.specs.InMemory.{Inode, Loaded}
use Rattle.fs_machine.specs.declared.entries.Dropped.{Dropped}
use Rattle.fs_machine.specs.declared.entries.Dropped.TheVariants as dropped
use Rattle.fs_machine.specs.Inodes.{DroppedState, Counts, Keeps, Dies}

abbrev pub locked_as : {S : Type 0} → Option (GuardState Inode) → S → ExecResult (Option Loaded) S
locked_as None s = Waits
locked_as (Some guard) s = Ran guard.value.content s

abbrev pub dropped_as : {S : Type 0} → Dropped → S → ExecResult DroppedState S
dropped_as dropped.Counted s = Ran Counts s
dropped_as (dropped.Dying n guard) s = Ran (Dies n guard.value.content) s

-- what holds of the reference and the guard, if the inode is to be freed
abbrev pub IfDying : Dropped → (ℕ → GuardState Inode → Type 0) → Type 0
IfDying dropped.Counted P = Unit {0}
IfDying (dropped.Dying n guard) P = P n guard

abbrev pub opened_as : {E : Type 0} → Result ℕ E → Option ℕ
opened_as (Ok fd) = Some fd
opened_as (Err e) = None

abbrev pub kept_as : Option ℕ → DroppedState
kept_as None = Counts
kept_as (Some n) = Keeps
