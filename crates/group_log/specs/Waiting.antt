-- When a hart waits, and what its calls answer.
use Rattle.std.specs.Prelude.{◌≡◌, ◌⊎◌, ℕ, ◌+◌, ◌*◌, List, [], ◌∷◌, Bool, true, if◌then◌else◌, ◌==◌, nat_lt, min}
use Rattle.group_log.specs.Vocabulary.{Super, IsOutsideLog, most_faults}
use Rattle.group_log.specs.declared.limits.TheConstants.{BLOCKS_OF_A_TRANSACTION}
use Rattle.group_log.specs.declared.phase.Phase.{Phase}
use Rattle.group_log.specs.declared.phase.Phase.TheVariants.{Open, Staging, Installing, Halted}
use Rattle.group_log.specs.declared.commit.Progress.{Progress}
use Rattle.group_log.specs.declared.commit.Progress.TheVariants.{Waits, Wrote, Ended, Failed}
use Rattle.group_log.specs.declared.log.AfterLeave.{AfterLeave}
use Rattle.group_log.specs.declared.log.AfterLeave.TheVariants.{Free, Commits}

-- a join waits while a commit runs, if the group might outgrow the log, and for good after a fault
abbrev pub join_waits : Phase → ℕ → ℕ → ℕ → Bool
join_waits Open recorded outstanding limit = nat_lt limit (recorded + (outstanding + 1) * BLOCKS_OF_A_TRANSACTION)
join_waits (Staging i) recorded outstanding limit = true
join_waits (Installing i) recorded outstanding limit = true
join_waits Halted recorded outstanding limit = true

-- a leave with `outstanding` others in a transaction: with none it commits the group, if there is one
abbrev pub left_at : ℕ → List ℕ → AfterLeave
left_at outstanding [] = Free
left_at outstanding (b ∷ group) = if outstanding == 0 then Commits else Free

-- the answer of a write that leads to this phase
abbrev pub progress_at : Phase → Progress
progress_at Open = Ended
progress_at (Staging i) = Wrote
progress_at (Installing i) = Wrote
progress_at Halted = Wrote

abbrev pub IfWaits : Progress → Type 0 → Type 0
IfWaits Waits P = P
IfWaits Wrote P = Unit {0}
IfWaits Ended P = Unit {0}
IfWaits Failed P = Unit {0}

-- a write was made
abbrev pub IfMade : Progress → Type 0 → Type 0
IfMade Waits P = Unit {0}
IfMade Wrote P = P
IfMade Ended P = P
IfMade Failed P = Unit {0}

abbrev pub IfFailed : Progress → Type 0 → Type 0
IfFailed Waits P = Unit {0}
IfFailed Wrote P = Unit {0}
IfFailed Ended P = Unit {0}
IfFailed Failed P = P

-- the count of faults afterwards
abbrev pub faults_at : Progress → ℕ → ℕ
faults_at Waits n = n
faults_at Wrote n = n
faults_at Ended n = n
faults_at Failed n = min (n + 1) most_faults

-- outside the log the disk is recovered as before, or as the second has it
abbrev pub StaysOrBecomes : Super → (ℕ → List ℕ) → (ℕ → List ℕ) → (ℕ → List ℕ) → Type 0
StaysOrBecomes sizes old other new = ((b : ℕ) → IsOutsideLog sizes b → new b ≡ old b) ⊎ ((b : ℕ) → IsOutsideLog sizes b → new b ≡ other b)
