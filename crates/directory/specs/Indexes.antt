-- The index of a directory's names: the used slots of its first blocks, in their order.
use Rattle.std.specs.Prelude.{◌≡◌, ℕ, zero, suc, ◌+◌, ◌-◌, ◌*◌, ◌≤◌, ◌==◌, ◌&&◌, if◌then◌else◌, nat_le, nat_lt, min, Bool, List, [], ◌∷◌, ◌++◌, length, map, replicate, take, find, Option, Some, None}
use Rattle.directory.specs.Vocabulary.{option_map, Dinode, Dirent, IndexState, IndexedSlot, Version, no_index, u16_at, record_at, dirent_of, dirent_len_of, dirents_per_block_of, longest_dirent}
use Rattle.directory.specs.Slots.{is_named, is_used}
use Rattle.directory.specs.Aims.{Aim, Named, Unused, Entry, slot_count, slots_in}
use Rattle.directory.specs.declared.found.Found.{Found}

-- how many slots it has room for
abbrev pub index_room : ℕ
index_room = 64

-- how many of the directory's slots are in the blocks that it has
abbrev pub slots_known : Version → IndexState → ℕ
slots_known v x = dirents_per_block_of v * x.blocks

-- ---- the bytes of its slots

-- a slot's bytes as they are kept: zeros come after them, up to the longest
abbrev pub kept : List ℕ → List ℕ
kept bytes = bytes ++ replicate (longest_dirent - length bytes) 0

-- of what is kept for a slot, the bytes on the disk
abbrev pub on_disk : Version → List ℕ → List ℕ
on_disk v bytes = take (dirent_len_of v) bytes

-- ---- when it is right

-- the used ones of the first slots up to a number, which are read so
unfoldable pub used_upto : (ℕ → Option Dirent) → ℕ → List (ℕ × Option Dirent)
used_upto read zero = []
used_upto read (suc s) = used_upto read s ++ (if is_used (read s) then (s, read s) ∷ [] else [])

-- a slot of the index: its place, and how it is read
abbrev pub as_read : Version → IndexedSlot → ℕ × Option Dirent
as_read v e = (e.place, dirent_of v (on_disk v e.bytes))

-- it has the used slots of its blocks, in a directory whose slots are read so, and room for them
unfoldable pub IsIndex : Version → IndexState → (ℕ → Option Dirent) → Type 0
IsIndex v x read = (map (as_read v) x.slots ≡ used_upto read (slots_known v x)) × (length x.slots ≤ index_room)

-- ---- what is sought, found in it

abbrev pub found_as : IndexedSlot → Found
found_as e = record { slot = e.place; number = u16_at e.bytes 0 }

-- the first slot from s on that isn't used: if it were, the next one of the list would be at that place
unfoldable pub first_gap : ℕ → List IndexedSlot → ℕ
first_gap s [] = s
first_gap s (e ∷ es) = if e.place == s then first_gap (s + 1) es else s

abbrev pub free_below : ℕ → ℕ → Option Found
free_below limit s = if nat_lt s limit then Some (record { slot = s; number = 0 }) else None

-- the first of its slots that passes a test, among the first `count` of the directory
abbrev pub first_that : (IndexedSlot → Bool) → ℕ → List IndexedSlot → Option Found
first_that test count slots = option_map found_as (find (λ e. nat_lt e.place count && test e) slots)

-- the first such slot in the blocks that it has
unfoldable pub first_of : Version → Aim → Dinode → IndexState → Option Found
first_of v (Named name) d x = first_that (λ e. is_named name (dirent_of v (on_disk v e.bytes))) (slot_count v d) x.slots
first_of v Unused d x = free_below (min (slots_known v x) (slot_count v d)) (first_gap 0 (take index_room x.slots))
first_of v Entry d x = first_that (λ e. nat_le 2 e.place) (slot_count v d) x.slots

-- ---- how it changes

-- the used ones among the first `limit` slots of block k
unfoldable pub used_in : Version → (k limit : ℕ) → List ℕ → List IndexedSlot
used_in v k zero block = []
used_in v k (suc p) block =
    used_in v k p block
    ++ (if u16_at block (dirent_len_of v * p) == 0 then []
    else record { place = dirents_per_block_of v * k + p; bytes = kept (record_at (dirent_len_of v) p block) } ∷ [])

abbrev pub with_block : ℕ → List IndexedSlot → IndexState → IndexState
with_block k used x =
    if (x.blocks == k) && nat_le (length x.slots + length used) index_room then record { blocks = k + 1; slots = x.slots ++ used } else x

-- block k was read: if it is the next one, and its used slots fit, it has that too
unfoldable pub raised : Version → Dinode → ℕ → List ℕ → IndexState → IndexState
raised v d k block x = with_block k (used_in v k (slots_in v d k) block) x

-- a slot goes to its place in their order
unfoldable pub placed : IndexedSlot → List IndexedSlot → List IndexedSlot
placed e [] = e ∷ []
placed e (f ∷ fs) = if nat_lt e.place f.place then e ∷ f ∷ fs else f ∷ placed e fs

abbrev pub with_slot_if : IndexedSlot → IndexState → IndexState
with_slot_if e x = if nat_lt (length x.slots) index_room then record x { slots = placed e x.slots } else no_index

-- an entry of these bytes was put into slot s: if it has no room it has no block any more
unfoldable pub with_entry : Version → ℕ → List ℕ → IndexState → IndexState
with_entry v s bytes x = if nat_lt s (slots_known v x) then with_slot_if (record { place = s; bytes = kept bytes }) x else x

unfoldable pub without : ℕ → List IndexedSlot → List IndexedSlot
without s [] = []
without s (e ∷ es) = if e.place == s then es else e ∷ without s es

-- slot s was cleared
unfoldable pub cleared : ℕ → IndexState → IndexState
cleared s x = record x { slots = without s x.slots }
