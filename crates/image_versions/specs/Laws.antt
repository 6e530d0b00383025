-- How the widths of each version relate to one another.
use Rattle.std.specs.Prelude.{◌≡◌, ℕ, ◌+◌, ◌-◌, ◌*◌, ◌/◌, ◌%◌, ◌<◌, ◌≤◌, ◌^◌, Some}
use Rattle.image_versions.specs.declared.version.Version.{Version}
use Rattle.image_versions.specs.declared.version.Version.TheVariants.{One, Two}
use Rattle.image_versions.specs.Shared.{block_len, largest_size, most_content_blocks}
use Rattle.image_versions.specs.Versions.{number_of, magic_of, name_len_of, longest_name, dirent_len_of, dirents_per_block_of, most_slots_of, new_directory_size_of, version_of_number, version_of_magic}

abbrev pub MagicsTellVersions : Type 0
MagicsTellVersions = (v : Version) → version_of_magic (magic_of v) ≡ Some v

abbrev pub MagicsAreOfTheirVersion : Type 0
MagicsAreOfTheirVersion = (m : ℕ) (v : Version) → version_of_magic m ≡ Some v → m ≡ magic_of v

abbrev pub NumbersTellVersions : Type 0
NumbersTellVersions = (v : Version) → version_of_number (number_of v) ≡ Some v

-- there is a version of each number between the first and the last
abbrev pub NumbersAreOfVersions : Type 0
NumbersAreOfVersions = (n : ℕ) → number_of One ≤ n → n ≤ number_of Two → (v : Version) × (version_of_number n ≡ Some v)

-- between those of the first version and those of the last; slots are numbered by a u16, and a magic number is a u32
abbrev pub WidthsAreInRange : Type 0
WidthsAreInRange = (v : Version)
    → (14 ≤ name_len_of v) × (name_len_of v ≤ longest_name) × (16 ≤ dirent_len_of v) × (dirent_len_of v ≤ 32)
    × (32 ≤ dirents_per_block_of v) × (dirents_per_block_of v ≤ 64) × (most_slots_of v < 2 ^ 16) × (magic_of v < 2 ^ 32)

abbrev pub EntriesFillBlocks : Type 0
EntriesFillBlocks = (v : Version) → dirent_len_of v * dirents_per_block_of v ≡ block_len

abbrev pub EntriesLieInBlocks : Type 0
EntriesLieInBlocks = (v : Version) (place : ℕ) → place < dirents_per_block_of v → dirent_len_of v * place + dirent_len_of v ≤ block_len

abbrev pub EntriesLieApart : Type 0
EntriesLieApart = (v : Version) (p q : ℕ) → p < q → dirent_len_of v * p + dirent_len_of v ≤ dirent_len_of v * q

-- slot s of a directory is one of its block's, at that block's bytes
abbrev pub SlotsLieInTheirBlocks : Type 0
SlotsLieInTheirBlocks = (v : Version) (s : ℕ) → (s % dirents_per_block_of v < dirents_per_block_of v)
    × (dirent_len_of v * s ≡ block_len * (s / dirents_per_block_of v) + dirent_len_of v * (s % dirents_per_block_of v))

-- and is inside a content that has more than s slots
abbrev pub SlotsLieInTheirContent : Type 0
SlotsLieInTheirContent = (v : Version) (s size : ℕ) → s < size / dirent_len_of v
    → (dirent_len_of v * s + dirent_len_of v ≤ size) × (block_len * (s / dirents_per_block_of v) < size)

-- the length of n entries counts n slots, and no part of one
abbrev pub LengthsCountSlots : Type 0
LengthsCountSlots = (v : Version) (n : ℕ) → (dirent_len_of v * n / dirent_len_of v ≡ n) × (dirent_len_of v * n % dirent_len_of v ≡ 0)

abbrev pub ContentsHoldTheMostSlots : Type 0
ContentsHoldTheMostSlots = (v : Version) → dirent_len_of v * most_slots_of v ≡ largest_size

abbrev pub NewDirectoriesFit : Type 0
NewDirectoriesFit = (v : Version) → (new_directory_size_of v ≤ block_len) × (new_directory_size_of v / dirent_len_of v ≡ 2)

-- whole blocks that hold n entries have whole slots: those n, and the rest
abbrev pub BlocksHoldEntries : Type 0
BlocksHoldEntries = (v : Version) (n blocks : ℕ) → dirent_len_of v * n ≤ block_len * blocks
    → (n ≤ block_len * blocks / dirent_len_of v) × (block_len * blocks % dirent_len_of v ≡ 0)
    × (block_len * blocks - dirent_len_of v * n ≡ dirent_len_of v * (block_len * blocks / dirent_len_of v - n))

-- the entries of a directory with no more than the most slots are no longer than a node may be
abbrev pub MostSlotsFit : Type 0
MostSlotsFit = (v : Version) (n : ℕ) → n ≤ most_slots_of v → dirent_len_of v * n ≤ largest_size

-- an entry is whole words of eight bytes
abbrev pub EntriesAreWords : Type 0
EntriesAreWords = (v : Version) → 8 * (dirent_len_of v / 8) ≡ dirent_len_of v

-- a place of block k is a slot of that block
abbrev pub PlacesLieInTheirBlocks : Type 0
PlacesLieInTheirBlocks = (v : Version) (k place : ℕ) → place < dirents_per_block_of v
    → ((dirents_per_block_of v * k + place) / dirents_per_block_of v ≡ k)
    × ((dirents_per_block_of v * k + place) % dirents_per_block_of v ≡ place)

-- the first blocks have the slots below this, and no others
abbrev pub BlocksHaveTheSlotsBelow : Type 0
BlocksHaveTheSlotsBelow = (v : Version) (s blocks : ℕ) → (s / dirents_per_block_of v < blocks → s < dirents_per_block_of v * blocks)
    × (s < dirents_per_block_of v * blocks → s / dirents_per_block_of v < blocks)

-- block k has some of the first n slots exactly if it is one of the blocks that they take
abbrev pub SlotsTakeBlocks : Type 0
SlotsTakeBlocks = (v : Version) (n k : ℕ)
    → (k < (n + (dirents_per_block_of v - 1)) / dirents_per_block_of v → dirents_per_block_of v * k < n)
    × (dirents_per_block_of v * k < n → k < (n + (dirents_per_block_of v - 1)) / dirents_per_block_of v)

-- a directory has the slots of each block that a content may have, and takes no more blocks
abbrev pub DirectoriesHaveWholeBlocks : Type 0
DirectoriesHaveWholeBlocks = (v : Version)
    → ((k : ℕ) → k < most_content_blocks → dirents_per_block_of v * k + dirents_per_block_of v ≤ most_slots_of v)
    × ((n : ℕ) → n ≤ most_slots_of v → (n + (dirents_per_block_of v - 1)) / dirents_per_block_of v ≤ most_content_blocks)

-- a name of a version is one of each later version
abbrev pub LaterNamesAreLonger : Type 0
LaterNamesAreLonger = (v w : Version) → number_of v < number_of w → name_len_of v ≤ name_len_of w
