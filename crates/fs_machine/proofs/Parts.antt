-- The result of a call of a part, in the whole.
use Rattle.fs_machine.proofs.Vocabulary.{◌≡◌, ℕ, Option, Some, None, Result, Ok, Err, refl, GuardState, BufferState, Got, Progress, exec_result_in, Inode, Dropped, locked_as, dropped_as, joined_as, got_as, read_as, committed_as}
use Rattle.buffer_cache.specs.declared.got.Got.TheVariants as got
use Rattle.group_log.specs.declared.commit.Progress.TheVariants as progress
use Rattle.fs_machine.specs.declared.entries.Dropped.TheVariants as dropped

module _ {S T : Type 0} (into : S → T) (s : S) where
  pub joined-in : (r : Option ℕ) → exec_result_in into (joined_as r s) ≡ joined_as r (into s)
  joined-in None = refl
  joined-in (Some txn) = refl

  pub got-in : (r : Got) → exec_result_in into (got_as r s) ≡ got_as r (into s)
  got-in (got.Held guard) = refl
  got-in got.Waits = refl

  pub read-in : {A E : Type 0} (r : Result A E) (guard : GuardState BufferState) → exec_result_in into (read_as r guard s) ≡ read_as r guard (into s)
  read-in (Ok _) guard = refl
  read-in (Err _) guard = refl

  pub committed-in : (r : Progress) → exec_result_in into (committed_as r s) ≡ committed_as r (into s)
  committed-in progress.Waits = refl
  committed-in progress.Wrote = refl
  committed-in progress.Ended = refl
  committed-in progress.Failed = refl

-- the same of inodes in memory
module _ {S T : Type 0} (into : S → T) (s : S) where
  pub locked-in : (r : Option (GuardState Inode)) → exec_result_in into (locked_as r s) ≡ locked_as r (into s)
  locked-in None = refl
  locked-in (Some guard) = refl

  pub dropped-in : (r : Dropped) → exec_result_in into (dropped_as r s) ≡ dropped_as r (into s)
  dropped-in dropped.Counted = refl
  dropped-in (dropped.Dying n guard) = refl
