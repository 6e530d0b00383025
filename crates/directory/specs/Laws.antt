-- What a search finds, whatever its operations answer, and what a block has after a slot was written.
use Rattle.std.specs.Prelude.{◌≡◌, ◌≢◌, ℕ, ◌/◌, ◌%◌, ◌<◌, ◌≤◌, nat_le, ◌&&◌, List, [], length, Bool, true, false, Option, Some, None}
use Rattle.directory.specs.Vocabulary.{Dinode, Dirent, Loaded, Version, Free, Used, dirent_at, IsDirent, block_len, dirents_per_block_of, Ret, P, Oracle, outcome, recorded, FetchedBlock, fetch_block}
use Rattle.directory.specs.declared.found.Found.{Found}
use Rattle.directory.specs.Slots.{is_named, is_free, is_used}
use Rattle.directory.specs.Programs.{Aim, Named, Unused, Entry, Searched, block_count, slot_count, is_live_directory, lookup, search, with_dirent}
use Rattle.directory.specs.Indexes.{IsIndex}

-- the operations show these blocks as the directory's, at any time
abbrev pub Shows : Version → Oracle → Dinode → (ℕ → List ℕ) → Type 0
Shows v answer d content =
    (n k : ℕ) → k < block_count v d → (let p : P FetchedBlock = fetch_block d k in (outcome answer n p).bytes ≡ content k)

-- slot s of a directory with these blocks: None if its bytes are no entry
abbrev pub slot_at : Version → (ℕ → List ℕ) → ℕ → Option Dirent
slot_at v content s = dirent_at v (s % dirents_per_block_of v) (content (s / dirents_per_block_of v))

-- slot s is what is sought
abbrev pub is_sought : Aim → ℕ → Option Dirent → Bool
is_sought (Named name) s entry = is_named name entry
is_sought Unused s entry = is_free entry
is_sought Entry s entry = nat_le 2 s && is_used entry

-- the number in an entry; a free slot has none
abbrev pub number_of : Option Dirent → ℕ
number_of None = 0
number_of (Some Free) = 0
number_of (Some (Used number name)) = number

-- of the first `count` slots none is sought; or the first one that is was found, with its number
abbrev pub IsFirst : Aim → (ℕ → Option Dirent) → ℕ → Option Found → Type 0
IsFirst aim slots count None = (s : ℕ) → s < count → is_sought aim s (slots s) ≡ false
IsFirst aim slots count (Some f) =
    (f.slot < count) × (is_sought aim f.slot (slots f.slot) ≡ true) × (f.number ≡ number_of (slots f.slot))
    × ((s : ℕ) → s < f.slot → is_sought aim s (slots s) ≡ false)

-- a directory's blocks have `count` slots, which are read so; each is an entry, and there are no others
pub record AreSlots (v : Version) (count : ℕ) (content : ℕ → List ℕ) (slots : ℕ → Option Dirent) : Type 0 where
  pub shown : (s : ℕ) → s < count → slot_at v content s ≡ slots s
  pub entries : (s : ℕ) → s < count → slots s ≢ None
  pub beyond : (s : ℕ) → count ≤ s → is_used (slots s) ≡ false

-- if its index is right a search finds the first of the directory's slots that is sought, leaves the index right, and
-- records nothing
abbrev pub FindsTheFirst : Type 0
FindsTheFirst = (v : Version) (answer : Oracle) (l : Loaded) (content : ℕ → List ℕ) (slots : ℕ → Option Dirent) (aim : Aim)
    → Shows v answer l.inode content → AreSlots v (slot_count v l.inode) content slots → IsIndex v l.index slots
    → let p : P Searched = search v aim l in
    IsFirst aim slots (slot_count v l.inode) (outcome answer 0 p).found × IsIndex v (outcome answer 0 p).index slots
    × (recorded answer 0 p ≡ [])

-- in a directory without links, and in what is no directory, nothing is found, without an operation
abbrev pub FindsNothingInTheDead : Type 0
FindsNothingInTheDead =
    (v : Version) (name : List ℕ) (l : Loaded) → is_live_directory l.inode ≡ false
    → let p : P Searched = lookup v name l in p ≡ Ret (record { found = None; index = l.index })

-- a block into which an entry was written has it, and its other slots are as they were
abbrev pub PutsOneEntry : Type 0
PutsOneEntry = (v : Version) (place : ℕ) (entry : Dirent) (block : List ℕ) → place < dirents_per_block_of v → IsDirent v entry
    → length block ≡ block_len
    → (dirent_at v place (with_dirent v place entry block) ≡ Some entry)
    × ((q : ℕ) → q < dirents_per_block_of v → q ≢ place → dirent_at v q (with_dirent v place entry block) ≡ dirent_at v q block)
