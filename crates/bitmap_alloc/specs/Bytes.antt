-- The bytes of a block that is taken or given back, and of the bitmap that says so.
use Rattle.std.specs.Prelude.{ℕ, ◌-◌, ◌/◌, ◌%◌, ◌^◌, List, replicate, bit_and, bit_or, Option, Some, None, slice_index, slice_set}
use Rattle.bitmap_alloc.specs.Vocabulary.{block_len}

-- a bitmap with this block's bit set
unfoldable pub with_bit : ℕ → List ℕ → List ℕ
with_bit b bitmap = slice_set bitmap (b / 8) (bit_or (slice_index bitmap (b / 8)) (2 ^ (b % 8)))

-- a bitmap with this block's bit clear
unfoldable pub without_bit : ℕ → List ℕ → List ℕ
without_bit b bitmap = slice_set bitmap (b / 8) (bit_and (slice_index bitmap (b / 8)) (255 - 2 ^ (b % 8)))

-- the bitmap with this block's bit set, to be recorded; nothing if there is no block
abbrev pub marked_by : List ℕ → Option ℕ → Option (List ℕ)
marked_by bitmap None = None
marked_by bitmap (Some b) = Some (with_bit b bitmap)

-- a block of zeros
unfoldable pub zeros : List ℕ
zeros = replicate block_len 0
