-- A part of a content read.
use Rattle.std.specs.Prelude.{◌≡◌, ℕ, ◌+◌, ◌-◌, ◌≤◌, List, length, None, IsSome}
use Rattle.inode_data.specs.Vocabulary.{Dinode, Do, bind, unmarked, P, HandState as Hand, First, Op, block_at}
use Rattle.fs_machine.specs.Steps as steps
use Rattle.inode_data.specs.Widths.{most_bytes}
use Rattle.inode_data.specs.Programs.{FilledMemory, filled_with, next_block, blocks_between, part_of, read_part, read_blocks}
use Rattle.fs_machine.specs.declared.op.Op.TheVariants as ops
use Rattle.inode_data.specs.FetchingBlocks.{block_left, block_asked}
use Rattle.inode_data.specs.InHand.{FetchesFirst}
use Rattle.inode_data.specs.declared.read_part.Reading.{Reading}
use Rattle.inode_data.specs.declared.read_part.ReadPart.{ReadPart}
use Rattle.inode_data.specs.declared.read_part.ReadPart.TheVariants.{Fetching, Giving}

-- memory into which `count` bytes were read
abbrev pub filled_to : ℕ → List ℕ → FilledMemory
filled_to count bytes = record { count = count; bytes = bytes }

-- the memory as it is so far
abbrev pub filled_in : Reading → List ℕ → FilledMemory
filled_in r bytes = filled_to r.filled bytes

-- the blocks after the one that is read next
abbrev pub read_rest : Dinode → Reading → FilledMemory → P FilledMemory
read_rest d r = read_blocks r.left d (next_block r.from) r.upto

abbrev pub read_left : Dinode → List ℕ → ReadPart → Hand → P FilledMemory
read_left d bytes (Fetching r m) h = bind (block_left m h) (read_part (read_rest d r) r.from r.upto (filled_in r bytes))
read_left d bytes (Giving r) h =
    Do (steps.Put (block_at First h) None) unmarked (λ _. read_blocks r.left d r.from r.upto (filled_in r bytes))

abbrev pub read_asked : ReadPart → Op
read_asked (Fetching r m) = block_asked m
read_asked (Giving r) = ops.Give First

-- a read of `count` more blocks
pub record IsReading (count : ℕ) (r : Reading) : Type 0 where
  pub within : r.upto ≤ most_bytes
  pub blocks : blocks_between r.from r.upto ≡ count

-- how many bytes are read in all
abbrev pub in_all : Reading → ℕ
in_all r = r.filled + (r.upto - r.from)

abbrev pub read_count : ReadPart → ℕ
read_count (Fetching r m) = in_all r
read_count (Giving r) = in_all r

-- there is room for them
abbrev pub HasRoom : Reading → List ℕ → Type 0
HasRoom r bytes = in_all r ≤ length bytes

abbrev pub ReadReady : List ℕ → ReadPart → Hand → Type 0
ReadReady bytes (Fetching r m) h = IsReading (r.left + 1) r × HasRoom r bytes × FetchesFirst m h
ReadReady bytes (Giving r) h = IsReading r.left r × HasRoom r bytes × IsSome h.first × (h.second ≡ None)

-- the block's part was read, and the next block is next
pub record HasRead (r : Reading) (bytes block : List ℕ) (next : Reading) (filled : List ℕ) : Type 0 where
  pub read : filled_in next filled ≡ filled_with (filled_in r bytes) (part_of r.from r.upto block)
  pub from : next.from ≡ next_block r.from
  pub upto : next.upto ≡ r.upto
  pub left : next.left ≡ r.left
  pub ready : IsReading r.left next
  pub same : in_all next ≡ in_all r
  pub room : HasRoom next filled
