-- The slots of a directory, and what is sought in them.
use Rattle.std.specs.Prelude.{ℕ, ◌+◌, ◌-◌, ◌*◌, ◌/◌, min, List, Option}
use Rattle.directory.specs.Vocabulary.{option_map, Dinode, Version, u16_at, dirent_len_of, dirents_per_block_of, most_slots_of}
use Rattle.directory.specs.Slots.{first_named, first_free, first_used}
use Rattle.directory.specs.declared.found.Found.{Found}

-- ---- the slots of a directory

-- how many slots a directory may have
abbrev pub most_slots : Version → ℕ
most_slots v = most_slots_of v

-- how many it has
abbrev pub slot_count : Version → Dinode → ℕ
slot_count v d = min (most_slots v) (d.size / dirent_len_of v)

-- how many blocks have them
abbrev pub block_count : Version → Dinode → ℕ
block_count v d = (slot_count v d + (dirents_per_block_of v - 1)) / dirents_per_block_of v

-- how many of them block k has
abbrev pub slots_in : Version → Dinode → ℕ → ℕ
slots_in v d k = min (dirents_per_block_of v) (slot_count v d - dirents_per_block_of v * k)

-- ---- what is sought in them

pub data Aim : Type 0 where
  -- a used slot of this name
  Named : List ℕ → Aim
  -- a free slot
  Unused : Aim
  -- a used one past the first two
  Entry : Aim

-- the first such slot among the first `limit` of block k
abbrev pub first_in : Version → Aim → (k limit : ℕ) → List ℕ → Option ℕ
first_in v (Named name) k limit block = first_named v name limit block
first_in v Unused k limit block = first_free v limit block
first_in v Entry k limit block = first_used v (2 - dirents_per_block_of v * k) limit block

-- the slot at a place of block k, with the number that it has
abbrev pub found_at : Version → ℕ → List ℕ → ℕ → Found
found_at v k block place = record { slot = dirents_per_block_of v * k + place; number = u16_at block (dirent_len_of v * place) }

unfoldable pub found_in : Version → Aim → Dinode → ℕ → List ℕ → Option Found
found_in v aim d k block = option_map (found_at v k block) (first_in v aim k (slots_in v d k) block)
