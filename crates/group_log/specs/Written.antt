-- The results of one write.
use Rattle.std.specs.Prelude.{◌≡◌, ◌⊎◌, ◌+◌, ℕ, List, min, slice_set, Result, Ok, Err}
use Rattle.group_log.specs.Vocabulary.{most_faults}
use Rattle.group_log.specs.declared.copies.Written.{Written}
use Rattle.group_log.specs.declared.copies.Written.TheVariants.{Waits, Done, Failed}

-- a block of the disk gets these bytes; if the device fails, it may keep the old ones
abbrev pub Writes : List (List ℕ) → ℕ → List ℕ → Written → List (List ℕ) → Type 0
Writes old b bytes Waits new = new ≡ old
Writes old b bytes Done new = new ≡ slice_set old b bytes
Writes old b bytes Failed new = (new ≡ old) ⊎ (new ≡ slice_set old b bytes)

-- the value for each outcome
abbrev pub by_outcome : {A : Type 0} → Written → A → A → A → A
by_outcome Waits waits done failed = waits
by_outcome Done waits done failed = done
by_outcome Failed waits done failed = failed

-- the count of faults afterwards
abbrev pub faults_of : Written → ℕ → ℕ
faults_of Waits n = n
faults_of Done n = n
faults_of Failed n = min (n + 1) most_faults

-- what the device's answer means
abbrev pub outcome_of : {T E : Type 0} → Result T E → Written
outcome_of (Ok _) = Done
outcome_of (Err _) = Failed
