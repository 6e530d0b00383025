-- The slots of a directory's block, looked at in their places.
use Rattle.std.specs.Prelude.{◌≡◌, ℕ, ◌-◌, ◌*◌, ◌/◌, ◌<◌, max, nat_le, ◌&&◌, List, drop, slice_index, Bool, true, false, Option, Some, None}
use Rattle.directory.specs.Vocabulary.{bytes_eq, little_number, Dirent, Version, Free, Used, dirent_at, dirent_name_at, longest_dirent, first_below}

-- the slot is used, by this name
abbrev pub is_named : List ℕ → Option Dirent → Bool
is_named name None = false
is_named name (Some Free) = false
is_named name (Some (Used number other)) = bytes_eq other name

-- it is used
abbrev pub is_used : Option Dirent → Bool
is_used None = false
is_used (Some Free) = false
is_used (Some (Used number name)) = true

-- it is free
abbrev pub is_free : Option Dirent → Bool
is_free None = false
is_free (Some Free) = true
is_free (Some (Used number name)) = false

-- Among the first `limit` slots of a block: the first one of this name; the first free one; the first used one from a
-- place on.
unfoldable pub first_named : Version → List ℕ → ℕ → List ℕ → Option ℕ
first_named v name limit block = first_below (λ p. is_named name (dirent_at v p block)) limit

unfoldable pub first_free : Version → ℕ → List ℕ → Option ℕ
first_free v limit block = first_below (λ p. is_free (dirent_at v p block)) limit

unfoldable pub first_used : Version → ℕ → ℕ → List ℕ → Option ℕ
first_used v from limit block = first_below (λ p. nat_le from p && is_used (dirent_at v p block)) limit

-- ---- how the code compares: by words of eight bytes

-- the word at a place: bytes past the end count as zeros
unfoldable pub u64_at : List ℕ → ℕ → ℕ
u64_at bytes at = little_number 8 (drop at bytes)

-- how many words the longest slot has
abbrev pub most_words : ℕ
most_words = longest_dirent / 8

-- the place of word i in a slot with a name: the first begins with the name, the others are the slot's
abbrev pub word_place : ℕ → ℕ
word_place i = max dirent_name_at (8 * i)

-- these are the words of a slot with this name
abbrev pub AreWords : List ℕ → List ℕ → Type 0
AreWords words name = (i : ℕ) → i < most_words → slice_index words i ≡ u64_at name (word_place i - dirent_name_at)
