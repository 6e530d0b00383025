-- The head of the log: how many blocks are logged, and then their numbers.
use Rattle.std.specs.Prelude.{ℕ, nat_le, if◌then◌else◌, List, ◌∷◌, length, Option, Some, None}
use Rattle.fs_layout.specs.Vocabulary.{flat_map}
use Rattle.fs_layout.specs.declared.log_head.LogHead.{LogHead}
use Rattle.fs_layout.specs.Bytes.{u32_bytes, u32_at, u32s_at}
use Rattle.fs_layout.specs.Widths.{log_head_len, log_head_count_at, log_head_numbers_at}

-- the bytes of a head that names these blocks
abbrev pub spell_log_head : List ℕ → List ℕ
spell_log_head numbers = flat_map u32_bytes (length numbers ∷ numbers)

-- the block numbers that a head names: as many as it says
abbrev pub head_numbers : List ℕ → List ℕ
head_numbers block = u32s_at (u32_at block log_head_count_at) block log_head_numbers_at

-- the head that names these blocks
abbrev pub log_head : List ℕ → LogHead
log_head numbers = record { blocks = record { items = numbers } }

-- the head that a block is, if it has room for as many blocks as it says
abbrev pub log_head_of : List ℕ → Option LogHead
log_head_of block =
    if nat_le (u32_at block log_head_count_at) log_head_len then Some (log_head (head_numbers block)) else None
