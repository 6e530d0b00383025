-- A disk of which one call fails.
use Rattle.std.specs.Prelude.{ℕ, zero, suc, Bool, List, Option, Some, None, Result, is_err, if◌then◌else◌}
use Rattle.block_device.specs.Blocks.{with_block}

pub record OneFault : Type 0 where
  -- the disk's bytes
  pub bytes : List ℕ
  -- how many calls pass before the one that fails; None: it has failed, and all pass
  pub left : Option ℕ
  -- if the call that fails is a write, whether it leaves the new block
  pub done : Bool
  -- how many have failed
  pub faults : ℕ

-- the same after one more call
abbrev pub left_after : Option ℕ → Option ℕ
left_after None = None
left_after (Some zero) = None
left_after (Some (suc n)) = Some n

-- the bytes that a write leaves: if it fails, the old block or the new one is there
abbrev pub bytes_after : {E : Type 0} → Result (Unit {0}) E → OneFault → ℕ → List ℕ → List ℕ
bytes_after result d b block =
    if is_err result then (if d.done then with_block d.bytes b block else d.bytes) else with_block d.bytes b block
