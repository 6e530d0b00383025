-- How often a device has failed.
use Rattle.std.specs.Prelude.{ℕ, ◌+◌, min, Result, is_err, if◌then◌else◌}

-- one more, and no more than can be counted
abbrev pub one_more_fault : ℕ → ℕ
one_more_fault n = min (n + 1) 4294967295

-- one more if the call failed
abbrev pub faults_after : {T E : Type 0} → Result T E → ℕ → ℕ
faults_after result n = if is_err result then one_more_fault n else n
