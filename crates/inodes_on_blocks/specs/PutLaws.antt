-- The laws of puts: what a disk holds after one block is put, and how a node is changed on it put by put.
use Rattle.std.specs.Prelude.{◌≡◌, ◌≢◌, ℕ, suc, pos, ◌+◌, ◌*◌, ◌<◌, ◌≤◌, max, true, false, List, [], ◌∷◌, length, slice_index, slice_set, replicate, All, Option, Some, None}
use Rattle.inodes_on_blocks.specs.Vocabulary.{HasWholeBlocks, overwrite, recovered, sizes_of, version_in, block_len, dirent_len_of, numbers_per_block, Dirent, Dinode, Node, DirectorySlot as Slot, Directory, File, IsData, is_marked, largest_size, direct, inode_of, numbers_of, UpToLog}
use Rattle.inodes_on_blocks.specs.Basics.{IsInode, HoldsAt, NamesOwned, MarksBlocks, entry_of, size_in, IsPut, IsInodePut, IsBitPut, IsBytesPut, IsSlotPut, IsNumberPut, IsUntouched, LeavesOthers, IsLaidOut, IsSpare, slots_with, Becomes, Names, IsTaken, IsGivenBack}

-- ---- what is left

-- An inode that a change of the disk leaves alone holds what it held.
abbrev pub UntouchedInodesAreKept : Type 0
UntouchedInodesAreKept =
    (disk new : List (List ℕ)) (owner owner' : ℕ → ℕ) (i : ℕ) (v : Option Node) → IsUntouched disk new owner owner' i
    → HoldsAt disk owner i v → HoldsAt new owner' i v

-- A put of an inode's own data block leaves every other one.
abbrev pub PutsLeaveOthers : Type 0
PutsLeaveOthers =
    (disk new : List (List ℕ)) (owner : ℕ → ℕ) (i b : ℕ) → UpToLog disk → IsData (sizes_of disk) b → owner b ≡ i → IsPut disk new b
    → LeavesOthers disk new owner owner i

-- So does a put of an inode, those of its block too.
abbrev pub InodePutsLeaveOthers : Type 0
InodePutsLeaveOthers =
    (disk new : List (List ℕ)) (owner : ℕ → ℕ) (i : ℕ) (d : Dinode) → UpToLog disk → i < (sizes_of disk).ninodes → IsInodePut disk new i d
    → LeavesOthers disk new owner owner i

-- What leaves an inode leaves it while it is being changed as well.
abbrev pub UntouchedChangesAreKept : Type 0
UntouchedChangesAreKept =
    (disk new : List (List ℕ)) (owner owner' : ℕ → ℕ) (i : ℕ) (d : Dinode) (v : Node) → IsUntouched disk new owner owner' i
    → IsLaidOut disk owner i d v → Becomes disk new owner owner' i d d v

-- ---- an inode, before it is changed and after

abbrev pub HeldNodesAreLaidOut : Type 0
HeldNodesAreLaidOut =
    (disk : List (List ℕ)) (owner : ℕ → ℕ) (i : ℕ) (v : Node) → HoldsAt disk owner i (Some v)
    → IsLaidOut disk owner i (inode_of disk i) v × NamesOwned disk owner i (numbers_of disk (inode_of disk i))

abbrev pub PutNodesAreHeld : Type 0
PutNodesAreHeld =
    (disk new : List (List ℕ)) (owner : ℕ → ℕ) (i : ℕ) (d : Dinode) (v : Node) → UpToLog disk → i < (sizes_of disk).ninodes
    → IsInodePut disk new i d → IsLaidOut disk owner i d v
    → NamesOwned disk owner i (numbers_of disk d) → HoldsAt new owner i (Some v)

-- one that is put free, once it owns no block
abbrev pub FreedInodesAreHeld : Type 0
FreedInodesAreHeld =
    (disk new : List (List ℕ)) (owner : ℕ → ℕ) (i : ℕ) (d : Dinode) → IsInodePut disk new i d → d.kind ≡ pos 0 → NamesOwned disk owner i []
    → HoldsAt new owner i None

-- one that nothing refers to any more
abbrev pub DeadNodesMayGo : Type 0
DeadNodesMayGo =
    (disk : List (List ℕ)) (owner : ℕ → ℕ) (i : ℕ) (v : Node) → HoldsAt disk owner i (Some v) → v.count ≡ 0 → HoldsAt disk owner i None

-- ---- a node's change, put by put

-- Another count.
abbrev pub CountsCanChange : Type 0
CountsCanChange =
    (disk : List (List ℕ)) (owner : ℕ → ℕ) (i count : ℕ) (d : Dinode) (v : Node) → IsLaidOut disk owner i d v
    → Becomes disk disk owner owner i d (record d { nlink = pos count }) (record v { count = count })

-- Nothing in it: a new node, or an emptied one.
abbrev pub EmptyInodesAreLaidOut : Type 0
EmptyInodesAreLaidOut =
    (disk : List (List ℕ)) (owner : ℕ → ℕ) (i : ℕ) (d : Dinode) (v : Node) → IsInode (version_in disk) d v
    → size_in (version_in disk) v.kind ≡ 0 → All (λ b. b ≡ 0) d.addrs
    → IsLaidOut disk owner i d v × (NamesOwned disk owner i [] → NamesOwned disk owner i (numbers_of disk d))

-- Bytes of a file, within its size or from it on.
abbrev pub BytesCanBePut : Type 0
BytesCanBePut =
    (disk new : List (List ℕ)) (owner : ℕ → ℕ) (i k at count : ℕ) (bytes written : List ℕ) (d : Dinode) → HasWholeBlocks disk → UpToLog disk
    → IsLaidOut disk owner i d (record { count = count; kind = File bytes }) → IsBytesPut disk new d k at written
    → block_len * k + at ≤ length bytes
    → block_len * k + at + length written ≤ largest_size
    → Becomes disk new owner owner i d (record d { size = max d.size (block_len * k + at + length written) })
    (record { count = count; kind = File (overwrite bytes (block_len * k + at) written) })

-- A slot of a directory, or one more after its last.
abbrev pub SlotsCanBePut : Type 0
SlotsCanBePut =
    (disk new : List (List ℕ)) (owner : ℕ → ℕ) (i s count : ℕ) (slots : List (Option Slot)) (slot : Option Slot) (entry : Dirent)
    (d : Dinode)
    → IsLaidOut disk owner i d (record { count = count; kind = Directory slots }) → s ≤ length slots
    → dirent_len_of (version_in disk) * suc s ≤ largest_size
    → entry_of slot ≡ Some entry → IsSlotPut disk new d s entry
    → Becomes disk new owner owner i d (record d { size = max d.size (dirent_len_of (version_in disk) * suc s) })
    (record { count = count; kind = Directory (slots_with slots s slot) })

-- A spare block, as with zeros.
abbrev pub SparesCanBePut : Type 0
SparesCanBePut =
    (disk new : List (List ℕ)) (owner : ℕ → ℕ) (i b : ℕ) (d : Dinode) (v : Node) → IsLaidOut disk owner i d v → IsSpare disk owner i d b
    → IsPut disk new b → Becomes disk new owner owner i d d v

-- One more block in the inode itself.
abbrev pub DirectNumbersCanBeSet : Type 0
DirectNumbersCanBeSet =
    (disk : List (List ℕ)) (owner : ℕ → ℕ) (i place b : ℕ) (d : Dinode) (v : Node) → IsLaidOut disk owner i d v → place < direct
    → place < length d.addrs → slice_index d.addrs place ≡ 0
    → IsSpare disk owner i d b → Names disk disk owner i b d (record d { addrs = slice_set d.addrs place b }) v

-- A table for further ones: a block of zeros.
abbrev pub TablesCanBeSet : Type 0
TablesCanBeSet =
    (disk : List (List ℕ)) (owner : ℕ → ℕ) (i b : ℕ) (d : Dinode) (v : Node) → IsLaidOut disk owner i d v → direct < length d.addrs
    → slice_index d.addrs direct ≡ 0
    → IsSpare disk owner i d b → recovered disk b ≡ replicate block_len 0
    → Names disk disk owner i b d (record d { addrs = slice_set d.addrs direct b }) v

-- One more block in the table.
abbrev pub NumbersCanBePut : Type 0
NumbersCanBePut =
    (disk new : List (List ℕ)) (owner : ℕ → ℕ) (i place b : ℕ) (d : Dinode) (v : Node) → IsLaidOut disk owner i d v
    → length d.addrs ≡ suc direct → place < numbers_per_block
    → slice_index (numbers_of disk d) (suc direct + place) ≡ 0 → IsSpare disk owner i d b → IsNumberPut disk new d place b
    → Names disk new owner i b d d v

-- ---- whose the blocks are

-- A block whose bit is clear has no owner, and may be taken.
abbrev pub BlocksCanBeTaken : Type 0
BlocksCanBeTaken =
    (disk new : List (List ℕ)) (owner : ℕ → ℕ) (i b : ℕ) → UpToLog disk → MarksBlocks disk owner → i ≢ 0 → IsData (sizes_of disk) b
    → is_marked disk b ≡ false → IsBitPut disk new b true
    → IsTaken disk new owner i b

abbrev pub BlocksCanBeGivenBack : Type 0
BlocksCanBeGivenBack =
    (disk new : List (List ℕ)) (owner : ℕ → ℕ) (i b : ℕ) → UpToLog disk → i ≢ 0 → IsData (sizes_of disk) b → owner b ≡ i
    → IsBitPut disk new b false → IsGivenBack disk new owner i b

-- A number that names no block is owed nothing.
abbrev pub NoBlockIsOwed : Type 0
NoBlockIsOwed = (disk : List (List ℕ)) (owner : ℕ → ℕ) (i : ℕ) (numbers : List ℕ) → NamesOwned disk owner i (0 ∷ numbers)
    → NamesOwned disk owner i numbers
