-- A node without a name, freed.
use Rattle.std.specs.Prelude.{◌≡◌, ◌≢◌, ◌⊎◌, ℕ, ◌+◌, ◌/◌, ◌<◌, pos, true, false, List, All, replicate}
use Rattle.image_tree.specs.Vocabulary.{Version, Dinode, Super, HasBytes, HasWholeBlocks, addresses, inodes_per_block, sizes_of, recovered, IsOutsideLog}
use Rattle.image_tree.specs.Inodes.{inode_of, numbers_by}
use Rattle.image_tree.specs.Checks.{IsData, is_marked}
use Rattle.image_tree.specs.Damage.{UpToLog, IsWellFormed}
use Rattle.image_tree.specs.Shape.{is_orphan}
use Rattle.image_tree.specs.Trees.{tree_in}

-- inode i is free on the new disk, and so are the blocks that it named; all other inodes, bits and contents are as
-- before
pub record IsFreed (v : Version) (old new : List (List ℕ)) (i : ℕ) : Type 0 where
  pub sizes : sizes_of new ≡ sizes_of old
  pub good : UpToLog v new
  pub kind : (inode_of new i).kind ≡ pos 0
  pub inodes : (j : ℕ) → j ≢ i → j < (sizes_of old).ninodes → inode_of new j ≡ inode_of old j
  pub contents : (b : ℕ) → (b ≡ 0) ⊎ IsData (sizes_of old) b → recovered new b ≡ recovered old b
  pub cleared : All (λ b. b ≢ 0 → is_marked new b ≡ false) (numbers_by old i)
  pub kept : (b : ℕ) → All (λ c. c ≢ 0 → c ≢ b) (numbers_by old i) → is_marked new b ≡ is_marked old b
  pub fewer : (b : ℕ) → is_marked old b ≡ false → is_marked new b ≡ false

-- the inode, emptied and free; its device numbers stay
abbrev pub freed_inode : Dinode → Dinode
freed_inode d = record { kind = pos 0; major = d.major; minor = d.minor; nlink = pos 0; size = 0; addrs = replicate addresses 0 }

-- inode i has its place before the bitmap; past the last inode there may be such places too
abbrev pub HasPlace : Super → ℕ → Type 0
HasPlace s i = s.inodestart + i / inodes_per_block < s.bmapstart

-- a block outside the log that is neither of inodes nor the bitmap
abbrev pub IsElsewhere : Super → ℕ → Type 0
IsElsewhere s b = IsOutsideLog s b × ((b < s.inodestart) ⊎ (s.bmapstart < b))

-- inode i is freed and emptied, and nothing else is changed outside the log
pub record IsFreedAlone (v : Version) (old new : List (List ℕ)) (i : ℕ) : Type 0 where
  pub freed : IsFreed v old new i
  pub node : inode_of new i ≡ freed_inode (inode_of old i)
  pub inodes : (j : ℕ) → j ≢ i → HasPlace (sizes_of old) j → inode_of new j ≡ inode_of old j
  pub others : (b : ℕ) → IsElsewhere (sizes_of old) b → recovered new b ≡ recovered old b

-- Each node without a name is freed, and nothing else is changed outside the log.
pub record AreFreed (old new : List (List ℕ)) : Type 0 where
  pub nodes : (i : ℕ) → is_orphan old i ≡ true → inode_of new i ≡ freed_inode (inode_of old i)
  -- each other inode has its record as before, whether it is in use or free
  pub inodes : (i : ℕ) → is_orphan old i ≡ false → HasPlace (sizes_of old) i → inode_of new i ≡ inode_of old i
  -- the blocks that those nodes named are free
  pub cleared : (i : ℕ) → is_orphan old i ≡ true → All (λ b. b ≢ 0 → is_marked new b ≡ false) (numbers_by old i)
  -- and each other bit is as before
  pub kept : (b : ℕ) → ((i : ℕ) → is_orphan old i ≡ true → All (λ c. c ≢ 0 → c ≢ b) (numbers_by old i)) → is_marked new b ≡ is_marked old b
  -- what all other blocks show, even those of data
  pub others : (b : ℕ) → IsElsewhere (sizes_of old) b → recovered new b ≡ recovered old b

-- The disk, of whole blocks, is the old one with its nodes without a name freed.
pub record IsFreedDisk (v : Version) (old new : List (List ℕ)) : Type 0 where
  pub sizes : sizes_of new ≡ sizes_of old
  pub good : UpToLog v new
  pub whole : HasWholeBlocks new
  pub bytes : HasBytes new
  pub freed : AreFreed old new

-- There is one such disk, except for its log. If two disks are such, recovery leaves the same bytes on both, in each
-- block outside the log.
abbrev pub FreedDisksAgree : Type 0
FreedDisksAgree = (v : Version) (old one other : List (List ℕ)) → IsFreedDisk v old one → IsFreedDisk v old other
    → (b : ℕ) → IsOutsideLog (sizes_of old) b → recovered one b ≡ recovered other b

-- each node has a name
abbrev pub AreNamed : List (List ℕ) → Type 0
AreNamed disk = (i : ℕ) → is_orphan disk i ≡ false

-- inode i has been handled: it is freed if it was a node without a name, and else nothing is changed
abbrev pub IsReclaimed : Version → List (List ℕ) → List (List ℕ) → ℕ → Type 0
IsReclaimed v old new i = ((is_orphan old i ≡ false) × (new ≡ old)) ⊎ ((is_orphan old i ≡ true) × IsFreedAlone v old new i)

-- a well-formed image stays one when a node without a name is freed, with the same tree
abbrev pub FreedNodesLeaveImages : Type 0
FreedNodesLeaveImages = (v : Version) (old new : List (List ℕ)) (i : ℕ) → is_orphan old i ≡ true → IsFreed v old new i → IsWellFormed v old
    → IsWellFormed v new × (tree_in v new ≡ tree_in v old)

-- ---- two blocks that are put at once

-- recovery leaves these bytes in the bitmap's block and in block b, and elsewhere what it left before
pub record IsPut (v : Version) (old new : List (List ℕ)) (b : ℕ) (bitmap inodes : List ℕ) : Type 0 where
  pub sizes : sizes_of new ≡ sizes_of old
  pub good : UpToLog v new
  pub bitmap_is : recovered new (sizes_of old).bmapstart ≡ bitmap
  pub inodes_are : recovered new b ≡ inodes
  pub others : (c : ℕ) → IsOutsideLog (sizes_of old) c → c ≢ (sizes_of old).bmapstart → c ≢ b → recovered new c ≡ recovered old c
