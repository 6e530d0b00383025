-- A buffer, as its holder has it.
use Rattle.std.specs.Prelude.{ℕ, List, Bool, true, false, Option, Some, None}

-- the block that it is for, and the bytes if they are valid
pub record BufferState : Type 0 where
  pub block : ℕ
  pub content : Option (List ℕ)

-- the bytes, if they are valid
abbrev pub content_of : Bool → List ℕ → Option (List ℕ)
content_of true bytes = Some bytes
content_of false bytes = None

-- the block, once it is used
abbrev pub block_of : Bool → ℕ → Option ℕ
block_of true b = Some b
block_of false b = None
