-- The nodes of a running file system on the blocks that its log shows.
use Rattle.std.specs.Prelude.{ℕ, Bool, List, length, slice_index_or, Option, None, is_some}
use Rattle.inodes_on_blocks.specs.Vocabulary.{Super, SeatState, seen_in}
use Rattle.inodes_on_blocks.specs.Holds.{Nodes}
use Rattle.inodes_on_blocks.specs.Running.{IsRunning}
use Rattle.inodes_on_blocks.specs.Seen.{AreSeen, seen_blocks}

-- hart h is in a transaction
abbrev pub is_joined : List (Option ℕ) → ℕ → Bool
is_joined members h = is_some (slice_index_or members h None)

-- What is known beside the code's state. It is the nodes, each block's owner, and the bits that the mounted image had
-- set for nothing. It is also which hart is changing an inode, if one is.
pub record Ghost : Type 0 where
  pub nodes : Nodes
  pub owner : ℕ → ℕ
  pub left : ℕ → Bool
  pub changing : ℕ → Option ℕ

-- the disk as the log and its cache show it
abbrev pub shown : List (List ℕ) → List SeatState → Super → List (List ℕ)
shown contents seats sizes = seen_blocks sizes (seen_in contents seats) (length contents)

-- The nodes are on the seen blocks, but for those that a hart in a transaction is changing.
pub record AreOnBlocks (contents : List (List ℕ)) (seats : List SeatState) (sizes : Super) (members : List (Option ℕ))
    (g : Ghost) : Type 0 where
  pub seen : AreSeen sizes (seen_in contents seats) (length contents)
  pub running : IsRunning (shown contents seats sizes) g.nodes g.owner g.left g.changing (is_joined members)
