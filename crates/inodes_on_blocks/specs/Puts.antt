-- A put of one block of a disk that holds nodes, by what is put, and what it leaves. Then an inode that is being
-- changed, before it is put.
use Rattle.std.specs.Prelude.{◌≡◌, ◌≢◌, ℕ, suc, ◌+◌, ◌*◌, ◌/◌, ◌%◌, ◌<◌, ◌≤◌, ◌==◌, Bool, List, ◌∷◌, ◌++◌, take, drop, filter, length, slice_index, slice_set, All, Option, if◌then◌else◌}
use Rattle.inodes_on_blocks.specs.Vocabulary.{Dinode, Dirent, block_len, dirent_len_of, dirents_per_block_of, inodes_per_block, overwrite, dinode_at, numbers_in, IsDirent, spell_dirent, recovered, sizes_of, version_in, DirectorySlot as Slot, Node, put, IsOnce, direct, inode_of, is_block, numbers_of, block_number, IsData, is_marked}
use Rattle.inodes_on_blocks.specs.Holds.{HasContent, HasRoom, IsInode, IsOwned, NamesOwned, MarksBlocks, MarksNoOthers}

-- ---- what is put

-- block b alone is put
pub record IsPut (disk new : List (List ℕ)) (b : ℕ) : Type 0 where
  pub sizes : sizes_of new ≡ sizes_of disk
  pub others : (c : ℕ) → c ≢ b → recovered new c ≡ recovered disk c

-- the block that has inode i's record
abbrev pub inode_block : List (List ℕ) → ℕ → ℕ
inode_block disk i = (sizes_of disk).inodestart + i / inodes_per_block

-- inode i is put, and no other inode of its block is changed
pub record IsInodePut (disk new : List (List ℕ)) (i : ℕ) (d : Dinode) : Type 0 where
  pub block : IsPut disk new (inode_block disk i)
  pub this : dinode_at (i % inodes_per_block) (recovered new (inode_block disk i)) ≡ d
  pub others : (q : ℕ) → q < inodes_per_block → q ≢ i % inodes_per_block
      → dinode_at q (recovered new (inode_block disk i)) ≡ dinode_at q (recovered disk (inode_block disk i))

-- the bit of block b is put, and no other bit is changed
pub record IsBitPut (disk new : List (List ℕ)) (b : ℕ) (value : Bool) : Type 0 where
  pub block : IsPut disk new (sizes_of disk).bmapstart
  pub bits : (c : ℕ) → is_marked new c ≡ (if c == b then value else is_marked disk c)

-- bytes are put into block k of the content of inode d
pub record IsBytesPut (disk new : List (List ℕ)) (d : Dinode) (k at : ℕ) (written : List ℕ) : Type 0 where
  pub some : block_number (numbers_of disk d) k ≢ 0
  pub block : IsPut disk new (block_number (numbers_of disk d) k)
  pub some_bytes : 0 < length written
  pub room : at + length written ≤ block_len
  pub bytes : recovered new (block_number (numbers_of disk d) k)
      ≡ overwrite (recovered disk (block_number (numbers_of disk d) k)) at written

-- the block that has slot s of directory d, and the byte of it at which the slot begins
abbrev pub slot_block : List (List ℕ) → Dinode → ℕ → ℕ
slot_block disk d s = block_number (numbers_of disk d) (s / dirents_per_block_of (version_in disk))

abbrev pub slot_byte : List (List ℕ) → ℕ → ℕ
slot_byte disk s = dirent_len_of (version_in disk) * (s % dirents_per_block_of (version_in disk))

-- an entry is put into slot s of directory d
pub record IsSlotPut (disk new : List (List ℕ)) (d : Dinode) (s : ℕ) (entry : Dirent) : Type 0 where
  pub some : slot_block disk d s ≢ 0
  pub block : IsPut disk new (slot_block disk d s)
  pub spelled : IsDirent (version_in disk) entry
  pub room : slot_byte disk s ≤ length (recovered disk (slot_block disk d s))
  pub written : recovered new (slot_block disk d s)
      ≡ overwrite (recovered disk (slot_block disk d s)) (slot_byte disk s) (spell_dirent (version_in disk) entry)

-- a number is put at a place of the indirect block of inode d
pub record IsNumberPut (disk new : List (List ℕ)) (d : Dinode) (place b : ℕ) : Type 0 where
  pub some : slice_index d.addrs direct ≢ 0
  pub block : IsPut disk new (slice_index d.addrs direct)
  pub numbers : numbers_in (recovered new (slice_index d.addrs direct))
      ≡ slice_set (numbers_in (recovered disk (slice_index d.addrs direct))) place b

-- ---- what a put leaves

-- it leaves inode i, and the blocks that are the inode's: their bytes, and that they are just these
pub record IsUntouched (disk new : List (List ℕ)) (owner owner' : ℕ → ℕ) (i : ℕ) : Type 0 where
  pub sizes : sizes_of new ≡ sizes_of disk
  pub inode : inode_of new i ≡ inode_of disk i
  pub blocks : (b : ℕ) → IsData (sizes_of disk) b → owner b ≡ i → (recovered new b ≡ recovered disk b) × (owner' b ≡ i)
  pub alone : (b : ℕ) → IsData (sizes_of disk) b → owner' b ≡ i → owner b ≡ i

-- Every inode but i stays, and the bits are those of the owned blocks still.
pub record LeavesOthers (disk new : List (List ℕ)) (owner owner' : ℕ → ℕ) (i : ℕ) : Type 0 where
  pub inodes : (j : ℕ) → 1 ≤ j → j < (sizes_of disk).ninodes → j ≢ i → IsUntouched disk new owner owner' j
  pub bits : MarksBlocks disk owner → MarksBlocks new owner'
  pub no_others : (left : ℕ → Bool) → MarksNoOthers disk owner left → MarksNoOthers new owner' left

-- ---- an inode that is being changed

-- Inode d, as it will be put for i, and the blocks that it names say node v, and the blocks are the inode's own.
pub record IsLaidOut (disk : List (List ℕ)) (owner : ℕ → ℕ) (i : ℕ) (d : Dinode) (v : Node) : Type 0 where
  pub inode : IsInode (version_in disk) d v
  pub content : HasContent disk d v.kind
  pub room : HasRoom disk d
  pub owned : All (λ b. b ≢ 0 → IsOwned disk owner i b) (numbers_of disk d)
  pub once : IsOnce (filter is_block (numbers_of disk d))

-- block b is inode i's, and inode d, as i's, doesn't name it yet
pub record IsSpare (disk : List (List ℕ)) (owner : ℕ → ℕ) (i : ℕ) (d : Dinode) (b : ℕ) : Type 0 where
  pub owned : IsOwned disk owner i b
  pub unnamed : All (λ c. c ≢ b) (numbers_of disk d)

-- the slots with this one at place s, or after the last
abbrev pub slots_with : List (Option Slot) → ℕ → Option Slot → List (Option Slot)
slots_with slots s slot = take s slots ++ slot ∷ drop (suc s) slots

-- Inode d, as i's, has become e, which names the same blocks, and its node w. What it owns beside these is what it
-- owned.
pub record Becomes (disk new : List (List ℕ)) (owner owner' : ℕ → ℕ) (i : ℕ) (d e : Dinode) (w : Node) : Type 0 where
  pub laid : IsLaidOut new owner' i e w
  pub numbers : numbers_of new e ≡ numbers_of disk d
  pub named : (numbers : List ℕ) → NamesOwned disk owner i numbers → NamesOwned new owner' i numbers
  pub spare : (b : ℕ) → IsSpare disk owner i d b → IsSpare new owner' i e b

-- It has become e, which names the spare block b as well, and says the same.
pub record Names (disk new : List (List ℕ)) (owner : ℕ → ℕ) (i b : ℕ) (d e : Dinode) (v : Node) : Type 0 where
  pub laid : IsLaidOut new owner i e v
  pub named : NamesOwned disk owner i (b ∷ numbers_of disk d) → NamesOwned new owner i (numbers_of new e)

-- The free block b has become inode i's: whatever d it is being changed to, the block is a spare one.
pub record IsTaken (disk new : List (List ℕ)) (owner : ℕ → ℕ) (i b : ℕ) : Type 0 where
  pub left : LeavesOthers disk new owner (put owner b i) i
  pub laid : (d : Dinode) (v : Node) → IsLaidOut disk owner i d v → IsLaidOut new (put owner b i) i d v
  pub spare : (d : Dinode) (v : Node) → IsLaidOut disk owner i d v → IsSpare new (put owner b i) i d b
  pub named : (d : Dinode) (v : Node) → IsLaidOut disk owner i d v → NamesOwned disk owner i (numbers_of disk d)
      → NamesOwned new (put owner b i) i (b ∷ numbers_of new d)

-- Block b of inode i has become free.
pub record IsGivenBack (disk new : List (List ℕ)) (owner : ℕ → ℕ) (i b : ℕ) : Type 0 where
  pub left : LeavesOthers disk new owner (put owner b 0) i
  pub named : (numbers : List ℕ) → NamesOwned disk owner i (b ∷ numbers) → NamesOwned new (put owner b 0) i numbers
