-- A part of a content written.
use Rattle.std.specs.Prelude.{◌≡◌, ℕ, ◌+◌, ◌/◌, ◌^◌, ◌<◌, ◌≤◌, List, length, drop, None, IsSome}
use Rattle.inode_data.specs.Vocabulary.{bits_per_block, block_len, Dinode, Ret, bind, P, inode_block, HandState as Hand, First, Op, block_at, bytes_at, fetch_left, fetch_asked, fetch_block, fetch_place, FetchReady, store_left, store_asked, store_place, StoreReady}
use Rattle.inode_data.specs.Widths.{most_blocks}
use Rattle.inode_data.specs.Writing.{WriteResult, front_of, put_part, write_located, write_blocks, store_written}
use Rattle.inode_data.specs.declared.locate.Located.{Located}
use Rattle.fs_machine.specs.declared.op.Op.TheVariants as ops
use Rattle.inode_data.specs.Locating.{locate_left, locate_asked, LocateReady}
use Rattle.inode_data.specs.InHand.{HasBlock, NoBuffers}
use Rattle.inode_data.specs.declared.write_part.Writing.{Writing}
use Rattle.inode_data.specs.declared.write_part.Written.{Written}
use Rattle.inode_data.specs.declared.write_part.WritePart.{WritePart}
use Rattle.inode_data.specs.declared.write_part.WritePart.TheVariants.{Locating, Fetching, There, Storing}

-- the bytes that are left, and how many of them go into the next block
abbrev pub bytes_left : Writing → List ℕ → List ℕ
bytes_left w bytes = drop w.done bytes

abbrev pub next_count : Writing → List ℕ → ℕ
next_count w bytes = length (front_of w.at (bytes_left w bytes))

-- what was written so far, if this is the inode's record
abbrev pub written_so : Dinode → Writing → WriteResult
written_so d w = record { inode = d; upto = w.at }

-- the blocks after the next one, if this is the inode's record
abbrev pub blocks_behind : Writing → List ℕ → Dinode → P WriteResult
blocks_behind w bytes d = write_blocks w.left w.sizes (w.at + next_count w bytes) (drop (next_count w bytes) (bytes_left w bytes)) d

-- the inode is stored after these
abbrev pub stored : Writing → WriteResult → P WriteResult
stored w written = store_written w.sizes w.number written

-- the rest of the writing, if this is the inode's record
abbrev pub write_rest : Writing → Dinode → List ℕ → P WriteResult
write_rest w d bytes = bind (write_blocks w.left w.sizes w.at (bytes_left w bytes) d) (stored w)

-- the next block was sought
abbrev pub after_location : Writing → List ℕ → Located → P WriteResult
after_location w bytes l = bind (write_located (blocks_behind w bytes) w.at (bytes_left w bytes) l) (stored w)

-- its buffer is there
abbrev pub after_fetch : Writing → Dinode → List ℕ → ℕ → List ℕ → P WriteResult
after_fetch w d bytes b block = bind (put_part (blocks_behind w bytes d) b w.at (bytes_left w bytes) block) (stored w)

-- the record was stored
abbrev pub written_as : Written → WriteResult
written_as r = record { inode = r.inode; upto = r.upto }

abbrev pub give_written : Written → Unit {0} → P WriteResult
give_written r _ = Ret (written_as r)

abbrev pub write_left : List ℕ → WritePart → Hand → P WriteResult
write_left bytes (Locating w m) h = bind (locate_left m h) (after_location w bytes)
write_left bytes (Fetching w d f) h = bind (fetch_left f h) (after_fetch w d bytes (fetch_block f))
write_left bytes (There w d) h = after_fetch w d bytes (block_at First h) (bytes_at First h)
write_left bytes (Storing r m) h = bind (store_left m h) (give_written r)

abbrev pub write_asked : WritePart → Op
write_asked (Locating w m) = locate_asked m
write_asked (Fetching w d f) = fetch_asked f
write_asked (There w d) = ops.Record First
write_asked (Storing r m) = store_asked m

-- a writing of `count` more blocks, with the next one: each is one of a content, on a disk whose blocks have bits
pub record IsWriting (count : ℕ) (w : Writing) : Type 0 where
  pub within : w.at / block_len + count ≤ most_blocks
  pub size : w.sizes.size ≤ bits_per_block
  pub block : inode_block w.sizes.inodestart w.number < 2 ^ 32

-- it is within the bytes, with the next block before it
abbrev pub IsAmid : List ℕ → Writing → Type 0
IsAmid bytes w = IsWriting (w.left + 1) w × (w.done ≤ length bytes)

-- the bytes were written up to an offset that a content may have
abbrev pub IsWithin : Written → Type 0
IsWithin r = r.upto / block_len ≤ most_blocks

abbrev pub WriteReady : List ℕ → WritePart → Hand → Type 0
WriteReady bytes (Locating w m) h = IsAmid bytes w × LocateReady m h
WriteReady bytes (Fetching w d f) h = IsAmid bytes w × FetchReady f h × (fetch_place f ≡ First) × (h.second ≡ None) × IsSome h.txn
WriteReady bytes (There w d) h = IsAmid bytes w × HasBlock h × IsSome h.txn
WriteReady bytes (Storing r m) h = StoreReady m h × (store_place m ≡ First) × (h.second ≡ None) × IsWithin r

-- a part that begins after `done` of the bytes were written
abbrev pub BeginsAmid : ℕ → WritePart → Type 0
BeginsAmid done m = (bytes : List ℕ) (h : Hand) → NoBuffers h → IsSome h.txn → done ≤ length bytes → WriteReady bytes m h

-- the next block was written
pub record IsPast (w : Writing) (bytes : List ℕ) (next : Writing) : Type 0 where
  pub number : next.number ≡ w.number
  pub sizes : next.sizes ≡ w.sizes
  pub at : next.at ≡ w.at + next_count w bytes
  pub done : next.done ≡ w.done + next_count w bytes
  pub left : next.left ≡ w.left
  pub ready : IsWriting w.left next
  pub there : next.done ≤ length bytes
