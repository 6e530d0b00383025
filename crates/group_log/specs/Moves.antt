-- What a call makes of a log, as far as a stop is concerned.
use Rattle.std.specs.Prelude.{◌≡◌, ◌⊎◌, ℕ, ◌+◌, ◌<◌, List, length, Bool, true, false, if◌then◌else◌}
use Rattle.group_log.specs.Vocabulary.{recovered, seen}
use Rattle.group_log.specs.declared.phase.Phase.{Phase}
use Rattle.group_log.specs.declared.phase.Phase.TheVariants.{Open, Staging, Installing, Halted}
use Rattle.group_log.specs.declared.log.AfterLeave.{AfterLeave}
use Rattle.group_log.specs.declared.log.AfterLeave.TheVariants.{Free, Commits}
use Rattle.group_log.specs.declared.commit.Progress.{Progress}
use Rattle.group_log.specs.declared.commit.Progress.TheVariants.{Waits, Wrote, Ended, Failed}
use Rattle.group_log.specs.Group.{joined}
use Rattle.group_log.specs.Phases.{is_point}
use Rattle.group_log.specs.Soundness.{LogState}
use Rattle.group_log.specs.Waiting.{IfFailed}
use Rattle.group_log.specs.CrashLaw.{Blocks, AgreeOutside, commit_cut, IsLoggedRun}

-- what recovery would make of a log's disk, and what is seen
abbrev pub recovered_of : {D : Type 0} → (D → List (List ℕ)) → LogState D → Blocks
recovered_of contents l b = recovered (contents l.cache.device) b

abbrev pub seen_of : {D : Type 0} → (D → List (List ℕ)) → LogState D → Blocks
seen_of contents l b = seen contents l.cache b

-- a commit is under way
abbrev pub is_under_way : Phase → Bool
is_under_way Open = false
is_under_way (Staging i) = true
is_under_way (Installing i) = true
is_under_way Halted = false

-- no commit waits for its head to name the group
abbrev pub is_settled : Phase → Bool
is_settled Open = true
is_settled (Staging i) = false
is_settled (Installing i) = true
is_settled Halted = false

-- it isn't halted
abbrev pub is_running : Phase → Bool
is_running Open = true
is_running (Staging i) = true
is_running (Installing i) = true
is_running Halted = false

-- A call's change: it begins a commit or doesn't, and the head begins to name the group or doesn't. The head begins
-- to name it even if that write failed and left the new head.
pub record IsMove {D : Type 0} (contents : D → List (List ℕ)) (begins stands : Bool) (old new : LogState D) : Type 0 where
  pub sizes : new.sizes ≡ old.sizes
  -- the recovered disk becomes what is seen when the head begins to name the group, and else it stays
  pub becomes : AgreeOutside old.sizes (λ b. if stands then seen_of contents old b else recovered_of contents old b)
      (recovered_of contents new)
  -- the leave that begins a commit changes nothing that is seen, nor does any call while one runs
  pub still : is_under_way new.phase ≡ true → AgreeOutside old.sizes (seen_of contents old) (seen_of contents new)
  pub in_commit : stands ≡ true → is_under_way old.phase ≡ true
  pub begun_before : is_under_way new.phase ≡ true → begins ≡ false → is_under_way old.phase ≡ true
  -- a commit goes on until its head is written
  pub settles : is_settled new.phase ≡ true → (begins ≡ false) × ((stands ≡ true) ⊎ (is_settled old.phase ≡ true))
  -- it begins when nobody is in a transaction
  pub alone : begins ≡ true → joined new.members ≡ 0
  -- what is halted stays so
  pub runs : is_running new.phase ≡ true → is_running old.phase ≡ true

-- of a leave
abbrev pub begins_at : AfterLeave → Bool
begins_at Free = false
begins_at Commits = true

-- Of a commit's step: whether the head begins to name the group with it. It does exactly if the step's write is the
-- one that makes it do so; after a fault it may.
abbrev pub Stands : Progress → Bool → Bool → Type 0
Stands Waits point stands = stands ≡ false
Stands Wrote point stands = stands ≡ point
Stands Ended point stands = stands ≡ point
Stands Failed point stands = stands ≡ true → point ≡ true

pub record IsCommitMove {D : Type 0} (contents : D → List (List ℕ)) (answer : Progress) (old new : LogState D) : Type 0 where
  pub stands : Bool
  pub says : Stands answer (is_point (length old.group) old.phase) stands
  pub move : IsMove contents false stands old new
  pub halts : IfFailed answer (is_running new.phase ≡ false)

-- The states of a log from a fresh one on, each led to by a call from the one before.
pub record IsRunOfLog {D : Type 0} (contents : D → List (List ℕ)) (n : ℕ) (states : ℕ → LogState D)
    (begins stands : ℕ → Bool) : Type 0 where
  pub fresh : AgreeOutside (states 0).sizes (seen_of contents (states 0)) (recovered_of contents (states 0))
  pub idle : (states 0).phase ≡ Open
  pub calls : (i : ℕ) → i < n → IsMove contents (begins i) (stands i) (states i) (states (i + 1))

-- these are a run that the crash law speaks of
abbrev pub LogsAreLoggedRuns : {D : Type 0} → (D → List (List ℕ)) → Type 0
LogsAreLoggedRuns {D} contents = (n : ℕ) (states : ℕ → LogState D) (begins stands : ℕ → Bool) → IsRunOfLog contents n states begins stands
    → IsLoggedRun (states 0).sizes n (λ i. seen_of contents (states i)) (λ i. recovered_of contents (states i))
    (λ i. is_under_way (states i).phase) begins stands

-- after any calls recovery makes what was seen at the leave that began the last commit whose head was written
abbrev pub LogsStopAtACut : {D : Type 0} → (D → List (List ℕ)) → Type 0
LogsStopAtACut {D} contents = (n : ℕ) (states : ℕ → LogState D) (begins stands : ℕ → Bool) → IsRunOfLog contents n states begins stands
    → AgreeOutside (states 0).sizes (seen_of contents (states (commit_cut begins stands n))) (recovered_of contents (states n))

-- calls that neither begin a commit nor write, and then one that may write, are together as one
abbrev pub MovesCompose : {D : Type 0} → (D → List (List ℕ)) → Type 0
MovesCompose {D} contents =
    (stands : Bool) (first mid last : LogState D) → IsMove contents false false first mid → IsMove contents false stands mid last
    → IsMove contents false stands first last
