-- Blocks recorded by the hart that has an inode's lock, in its transaction: what it may record, and what such a put
-- leaves.
use Rattle.std.specs.Prelude.{◌≡◌, ◌≢◌, ◌⊎◌, ℕ, ◌<◌, ◌≤◌, List, length, true, false, Some, IsSome, None, Contains}
use Rattle.inodes_on_blocks.specs.Vocabulary.{Dinode, bit_of, IsBytes, IsDinode, sizes_of, block_len, holder_of, kept, has, HasRoom, IsHome, Halted, IsData, is_marked, numbers_by, LogPart, Outside, put_block, seen_of, Put, After, with_bit, without_bit, inode_block, with_dinode, if_kept}
use Rattle.inodes_on_blocks.specs.Basics.{HoldsAt, MarksBlocks, MarksNoOthers, IsBitPut, IsUntouched, HasOwners, is_joined, Owners, World, log_of, disk_of, owners_after, exec, Shows, TakenShow, Same}
use Rattle.fs_machine.specs.Premises as premises
use Rattle.inode_machine.specs.World as above

-- a block's buffer, in the hart's hand and valid, may be recorded with these bytes
pub record CanPut (h b : ℕ) (bytes : List ℕ) (l : LogPart) : Type 0 where
  pub holder : holder_of b l.seats ≡ Some h
  pub valid : IsSome (kept b l.seats)
  pub joined : is_joined l.members h ≡ true
  pub runs : l.phase ≢ Halted
  pub home : IsHome l.contents l.sizes b
  pub room : has l.group b ≡ false → HasRoom l.members h
  pub long : length bytes ≡ block_len
  pub are : IsBytes bytes

-- whose the blocks are after it, for inode i and hart h
pub record PutLeaves (h i : ℕ) (r : World) (now : LogPart) (o : Owners) : Type 0 where
  pub inodes : (j : ℕ) → 1 ≤ j → j < (sizes_of (disk_of (log_of r))).ninodes → j ≢ i
      → IsUntouched (disk_of (log_of r)) (disk_of now) r.owner o.owner j
  pub bits : MarksBlocks (disk_of now) o.owner
  pub no_others : MarksNoOthers (disk_of now) o.owner o.left
  pub owners : HasOwners (disk_of now) o.owner
  pub shown : TakenShow (log_of r).sizes o.owner o.left o.taken
  pub others : (g : ℕ) → g ≢ h → (c : ℕ) → if_kept (o.taken c) g (seen_of now c) ≡ if_kept (r.taken c) g (seen_of (log_of r) c)

-- the log after it, and whose the blocks are
abbrev pub log_with : ℕ → ℕ → List ℕ → World → LogPart
log_with h b bytes r = put_block h b (Some bytes) (log_of r)

abbrev pub owners_with : ℕ → ℕ → List ℕ → World → Owners
owners_with h b bytes r = owners_after h (Put b (Some bytes)) r (record (r.state) { log = log_with h b bytes r })

-- the hart has the inode's lock, and is in a transaction
pub record IsChanging (h n : ℕ) (g : above.World) : Type 0 where
  pub lock : g.lock n ≡ Some h
  pub joined : (g.desks h).joined ≡ true

-- ---- the laws

-- A put that leaves the others' inodes so may be made, and keeps what is another hart's. It shows the same world
-- above, in which the inode is being changed.
abbrev pub RecordedPutsKeep : Type 0
RecordedPutsKeep =
    (h b n : ℕ) (bytes : List ℕ) (r : World) (g : above.World) (x : Outside) → Shows r g → IsChanging h n g → CanPut h b bytes (log_of r)
    → PutLeaves h n r (log_with h b bytes r) (owners_with h b bytes r)
    → premises.May h (Put b (Some bytes)) r.state
    × After (λ u. Shows u g × ((k : ℕ) → k ≢ h → Same k r u)) (exec h x (Put b (Some bytes)) r)

-- So does a put of a data block that is the inode's, or that the hart has taken.
abbrev pub DataPutsLeave : Type 0
DataPutsLeave =
    (h b n : ℕ) (bytes : List ℕ) (r : World) (g : above.World) → Shows r g → IsChanging h n g → CanPut h b bytes (log_of r)
    → IsData (sizes_of (disk_of (log_of r))) b → (r.owner b ≡ n) ⊎ (r.taken b ≡ Some h)
    → PutLeaves h n r (log_with h b bytes r) (owners_with h b bytes r)

-- One of the bitmap that clears the bit of a block of the inode.
abbrev pub ClearedBitsLeave : Type 0
ClearedBitsLeave =
    (h b n : ℕ) (bytes : List ℕ) (r : World) (g : above.World) → Shows r g → IsChanging h n g
    → CanPut h (log_of r).sizes.bmapstart bytes (log_of r) → IsData (sizes_of (disk_of (log_of r))) b → r.owner b ≡ n
    → IsBitPut (disk_of (log_of r)) (disk_of (log_with h (log_of r).sizes.bmapstart bytes r)) b false
    → PutLeaves h n r (log_with h (log_of r).sizes.bmapstart bytes r) (owners_with h (log_of r).sizes.bmapstart bytes r)

-- One that sets a bit that is clear; and the block is in the hart's hand.
abbrev pub SetBitsLeave : Type 0
SetBitsLeave =
    (h b n : ℕ) (bytes : List ℕ) (r : World) (g : above.World) → Shows r g → IsChanging h n g
    → CanPut h (log_of r).sizes.bmapstart bytes (log_of r) → IsData (sizes_of (disk_of (log_of r))) b
    → is_marked (disk_of (log_of r)) b ≡ false
    → IsBitPut (disk_of (log_of r)) (disk_of (log_with h (log_of r).sizes.bmapstart bytes r)) b true
    → PutLeaves h n r (log_with h (log_of r).sizes.bmapstart bytes r) (owners_with h (log_of r).sizes.bmapstart bytes r)
    × ((owners_with h (log_of r).sizes.bmapstart bytes r).taken b ≡ Some h)

-- the inode's block with this record in it
abbrev pub with_record : ℕ → Dinode → World → List ℕ
with_record n d r = with_dinode n d (seen_of (log_of r) (inode_block (log_of r).sizes.inodestart n))

-- One of the inode's record, by a hart that has taken no block.
abbrev pub RecordPutsLeave : Type 0
RecordPutsLeave =
    (h n : ℕ) (d : Dinode) (r : World) (g : above.World) → Shows r g → IsChanging h n g → IsDinode d → ((c : ℕ) → r.taken c ≢ Some h)
    → CanPut h (inode_block (log_of r).sizes.inodestart n) (with_record n d r) (log_of r)
    → PutLeaves h n r (log_with h (inode_block (log_of r).sizes.inodestart n) (with_record n d r) r)
    (owners_with h (inode_block (log_of r).sizes.inodestart n) (with_record n d r) r)

-- One of the inode's record, whichever blocks the hart has taken: those that the inode names then are the inode's.
abbrev pub NamingPutsLeave : Type 0
NamingPutsLeave =
    (h n : ℕ) (d : Dinode) (r : World) (g : above.World) → Shows r g → IsChanging h n g → IsDinode d
    -- each other inode whose lock it has holds its node
    → ((j : ℕ) → j ≢ n → g.lock j ≡ Some h → HoldsAt (disk_of (log_of r)) r.owner j (g.disk j))
    → CanPut h (inode_block (log_of r).sizes.inodestart n) (with_record n d r) (log_of r)
    → PutLeaves h n r (log_with h (inode_block (log_of r).sizes.inodestart n) (with_record n d r) r)
    (owners_with h (inode_block (log_of r).sizes.inodestart n) (with_record n d r) r)
    × ((c : ℕ) → r.taken c ≡ Some h
    → Contains (numbers_by (disk_of (log_with h (inode_block (log_of r).sizes.inodestart n) (with_record n d r) r)) n) c
    → ((owners_with h (inode_block (log_of r).sizes.inodestart n) (with_record n d r) r).owner c ≡ n)
    × ((owners_with h (inode_block (log_of r).sizes.inodestart n) (with_record n d r) r).taken c ≡ None))

-- A block is marked just if its bit is set in the bitmap as it is seen.
abbrev pub MarksAreBits : Type 0
MarksAreBits = (r : World) (g : above.World) → Shows r g → (c : ℕ)
    → is_marked (disk_of (log_of r)) c ≡ bit_of (seen_of (log_of r) (log_of r).sizes.bmapstart) c

-- The bitmap with one bit set, or clear, as the programs that take and give back a block put it.
abbrev pub BitmapsPutBits : Type 0
BitmapsPutBits =
    (h b : ℕ) (r : World) (g : above.World) → Shows r g → b < (log_of r).sizes.size
    → (CanPut h (log_of r).sizes.bmapstart (with_bit b (seen_of (log_of r) (log_of r).sizes.bmapstart)) (log_of r)
    → IsBitPut (disk_of (log_of r))
    (disk_of (log_with h (log_of r).sizes.bmapstart (with_bit b (seen_of (log_of r) (log_of r).sizes.bmapstart)) r)) b true)
    × (CanPut h (log_of r).sizes.bmapstart (without_bit b (seen_of (log_of r) (log_of r).sizes.bmapstart)) (log_of r)
    → IsBitPut (disk_of (log_of r))
    (disk_of (log_with h (log_of r).sizes.bmapstart (without_bit b (seen_of (log_of r) (log_of r).sizes.bmapstart)) r)) b false)
