-- Numbers and bytes in a block.
use Rattle.std.specs.Prelude.{ℕ, zero, suc, ◌+◌, ◌*◌, ℤ, List, [], ◌∷◌, ◌++◌, length, take, drop, slice_index, ◌<◌}
use Rattle.fs_layout.specs.Vocabulary.{w16, cast_signed, cast_unsigned, little_bytes, little_number}
use Rattle.fs_layout.specs.Widths.{number_len}

-- the block with these bytes from a place on, and nothing else changed
abbrev pub overwrite : List ℕ → ℕ → List ℕ → List ℕ
overwrite block at bytes = take at block ++ (bytes ++ drop (at + length bytes) block)

-- the bytes of a number, the lowest first
unfoldable pub u16_bytes : ℕ → List ℕ
u16_bytes n = little_bytes 2 n

unfoldable pub u32_bytes : ℕ → List ℕ
u32_bytes n = little_bytes 4 n

abbrev pub i16_bytes : ℤ → List ℕ
i16_bytes z = u16_bytes (cast_unsigned w16 z)

-- the number at a place
unfoldable pub u16_at : List ℕ → ℕ → ℕ
u16_at bytes at = little_number 2 (drop at bytes)

unfoldable pub u32_at : List ℕ → ℕ → ℕ
u32_at bytes at = little_number 4 (drop at bytes)

abbrev pub i16_at : List ℕ → ℕ → ℤ
i16_at bytes at = cast_signed w16 (u16_at bytes at)

-- the n numbers from a place on
unfoldable pub u32s_at : ℕ → List ℕ → ℕ → List ℕ
u32s_at zero bytes at = []
u32s_at (suc n) bytes at = u32_at bytes at ∷ u32s_at n bytes (at + number_len)

-- the bytes of the record at a place, if each record has this size
abbrev pub record_at : ℕ → ℕ → List ℕ → List ℕ
record_at size place block = take size (drop (size * place) block)

-- each is a byte
abbrev pub IsBytes : List ℕ → Type 0
IsBytes bytes = (i : ℕ) → slice_index bytes i < 256
