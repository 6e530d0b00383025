-- The block numbers of an indirect block.
use Rattle.std.specs.Prelude.{ℕ, List}
use Rattle.fs_layout.specs.Vocabulary.{flat_map}
use Rattle.fs_layout.specs.Bytes.{u32_bytes, u32s_at}
use Rattle.fs_layout.specs.Widths.{numbers_per_block}

-- the numbers that a block has
abbrev pub numbers_in : List ℕ → List ℕ
numbers_in block = u32s_at numbers_per_block block 0

-- the bytes of a block with these numbers
abbrev pub spell_numbers : List ℕ → List ℕ
spell_numbers numbers = flat_map u32_bytes numbers
