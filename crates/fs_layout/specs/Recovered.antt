-- The disk as recovery leaves it. A disk is the list of its blocks, each the list of its bytes.
use Rattle.std.specs.Prelude.{◌≡◌, ◌⊎◌, ℕ, ◌+◌, ◌<◌, ◌≤◌, ◌==◌, List, position}
use Rattle.fs_layout.specs.Vocabulary.{option_map_or, block_at, Version}
use Rattle.fs_layout.specs.declared.superblock.Super.{Super}
use Rattle.fs_layout.specs.Bytes.{u32_at}
use Rattle.fs_layout.specs.Super.{super_fields}
use Rattle.fs_layout.specs.LogHead.{head_numbers}
use Rattle.fs_layout.specs.Widths.{super_block, log_head_count_at}

-- the places of the disk's parts, as its superblock has them
unfoldable pub sizes_of : List (List ℕ) → Super
sizes_of disk = super_fields (block_at disk super_block)

-- the version of its image, as its magic number says
abbrev pub version_in : List (List ℕ) → Version
version_in disk = (sizes_of disk).version

-- the log's head
abbrev pub log_head_at : List (List ℕ) → List ℕ
log_head_at disk = block_at disk (sizes_of disk).logstart

-- how many copies the head says that the log has
abbrev pub log_count : List (List ℕ) → ℕ
log_count disk = u32_at (log_head_at disk) log_head_count_at

-- the blocks that the log has copies of, in order
unfoldable pub logged : List (List ℕ) → List ℕ
logged disk = head_numbers (log_head_at disk)

-- The block that has the recovered bytes of block b: the log's first copy of b, and if there is none, b itself. The
-- log begins at logstart and has copies of these blocks in order.
abbrev pub place_of : ℕ → List ℕ → ℕ → ℕ
place_of logstart blocks b = option_map_or (λ i. logstart + 1 + i) (position (λ x. x == b) blocks) b

-- the disk with such copies laid over their blocks
abbrev pub overlay : List (List ℕ) → ℕ → List ℕ → ℕ → List ℕ
overlay disk logstart blocks b = block_at disk (place_of logstart blocks b)

-- the block as recovery leaves it
unfoldable pub recovered : List (List ℕ) → ℕ → List ℕ
recovered disk b = overlay disk (sizes_of disk).logstart (logged disk) b

-- a block that the log doesn't take
abbrev pub IsOutsideLog : Super → ℕ → Type 0
IsOutsideLog sizes b = (b < sizes.logstart) ⊎ (sizes.logstart + sizes.nlog ≤ b)

-- recovery leaves the same of both, outside the log
abbrev pub SameRecovered : List (List ℕ) → List (List ℕ) → Type 0
SameRecovered old new = (b : ℕ) → IsOutsideLog (sizes_of old) b → recovered new b ≡ recovered old b
