-- How large a root with this number of files is.
use Rattle.fs_layout.specs.Widths.{block_len}
use Rattle.image_versions.specs.Shared.{largest_size}
use Rattle.mkfs.proofs.Vocabulary.{◌≡◌, ℕ, ◌+◌, ◌-◌, ◌*◌, ◌/◌, ◌%◌, ◌^◌, ◌<◌, ◌≤◌, arith, blocks_for, root_size, Version, dirent_len_of, most_slots_of}
use Rattle.image_versions.proofs.Places.{in_range, lie_apart, hold_entries, most_fit}

-- whole blocks hold the bytes
blocks-hold : (bytes : ℕ) → bytes ≤ block_len * blocks_for bytes
blocks-hold bytes = omega arith

blocks-few : (bytes : ℕ) → bytes ≤ largest_size → block_len * blocks_for bytes ≤ largest_size
blocks-few bytes h = omega arith

-- its slots: its entries, and free ones
module _ (v : Version) (files : ℕ) where
  slots : (2 + files ≤ root_size v files / dirent_len_of v) × (root_size v files % dirent_len_of v ≡ 0)
      × (root_size v files - dirent_len_of v * (2 + files) ≡ dirent_len_of v * (root_size v files / dirent_len_of v - (2 + files)))
  slots = hold_entries v (2 + files) (blocks_for (dirent_len_of v * (2 + files))) (blocks-hold (dirent_len_of v * (2 + files)))

  pub entries-fit : 2 + files ≤ root_size v files / dirent_len_of v
  entries-fit = slots.0

  pub whole-slots : root_size v files % dirent_len_of v ≡ 0
  whole-slots = slots.1

  pub free-bytes : root_size v files - dirent_len_of v * (2 + files) ≡ dirent_len_of v * (root_size v files / dirent_len_of v - (2 + files))
  free-bytes = slots.2

  pub first-two : 2 * dirent_len_of v ≤ root_size v files
  first-two = at-least (dirent_len_of v) (dirent_len_of v * (2 + files)) (root_size v files) (lie_apart v 1 (2 + files) (omega arith)) (blocks-hold (dirent_len_of v * (2 + files)))
    where
      at-least : (a b c : ℕ) → a * 1 + a ≤ b → b ≤ c → 2 * a ≤ c
      at-least a b c h l = omega arith

  pub few-bytes : 2 + files ≤ most_slots_of v → root_size v files ≤ largest_size
  few-bytes few = blocks-few (dirent_len_of v * (2 + files)) (most_fit v (2 + files) few)

pub some-slots : (v : Version) → 2 ≤ most_slots_of v
some-slots v = omega (arith, (in_range v).4)

-- the number of each of a directory's files is a u16
pub most-slots : (v : Version) → most_slots_of v < 2 ^ 16
most-slots v = (in_range v).6
