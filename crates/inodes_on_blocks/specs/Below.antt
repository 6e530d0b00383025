-- The machine below: what all harts share, and beside it, for the proof alone, whose each block is and which hart
-- commits.
use Rattle.std.specs.Prelude.{ℕ, List, Bool, true, false, if◌then◌else◌, Option, Some, None}
use Rattle.inodes_on_blocks.specs.Vocabulary.{Dinode, put, inode_of, is_free, Commits, ExecResult, Waits, Ran, Stops, TablesState, lock_holder, LogPart, Outside, State, Op, Answer, Put, Commit, Claims}
use Rattle.group_log.specs.declared.log.AfterLeave.TheVariants.{Free}
use Rattle.fs_machine.specs.Steps as steps
use Rattle.fs_machine.specs.Steps.{Leave, Claim}
use Rattle.inodes_on_blocks.specs.OnBlocks.{shown}
use Rattle.inodes_on_blocks.specs.Owners.{Owners, owners_put}

pub record World : Type 0 where
  pub state : State
  -- for the proof
  pub owner : ℕ → ℕ  -- the inode whose a block is, 0 where it is nobody's
  -- a bit that is set though the block is no inode's: left over of the mounted image, or of a block that a hart has
  -- taken
  pub left : ℕ → Bool
  pub taken : ℕ → Option ℕ  -- the hart that has set a block's bit, until an inode names the block
  pub commits : Option ℕ  -- the hart that makes the commit which is under way
  pub new : ℕ → Option ℕ  -- the hart that has claimed an inode, until its record has a type

abbrev pub log_of : World → LogPart
log_of w = w.state.log

abbrev pub tables_of : World → TablesState
tables_of w = w.state.tables

-- the disk as it is seen, and an inode on it
abbrev pub disk_of : LogPart → List (List ℕ)
disk_of l = shown l.contents l.seats l.sizes

abbrev pub inode_in : LogPart → ℕ → Dinode
inode_in l i = inode_of (disk_of l) i

-- the hart that left last commits, until the last write is made
abbrev pub commits_after : ℕ → (op : Op) → Answer op → Option ℕ → Option ℕ
commits_after h Leave Commits was = Some h
commits_after h Leave Free was = was
commits_after h Commit true was = None
commits_after h Commit false was = was
commits_after h op a was = was

-- an inode is new from its claim on, until it is recorded with a type
abbrev pub untyped : LogPart → (ℕ → Option ℕ) → ℕ → Option ℕ
untyped l was n = if is_free (inode_in l n) then was n else None

abbrev pub new_after : ℕ → (op : Op) → Answer op → LogPart → (ℕ → Option ℕ) → ℕ → Option ℕ
new_after h (Claim b candidates) (Claims n) l was = put was n (Some h)
new_after h (Put b (Some bytes)) a l was = untyped l was
new_after h op a l was = was

-- whose the blocks are
abbrev pub owners_of : World → Owners
owners_of w = record { owner = w.owner; left = w.left; taken = w.taken }

-- whose they are once hart h has put a block, before which the world was `was`; no other operation changes that
abbrev pub owners_after : ℕ → Op → (was : World) → State → Owners
owners_after h (Put b (Some bytes)) was s =
    owners_put (λ i. lock_holder i s.tables) h s.log.sizes.bmapstart b (disk_of was.state.log) (disk_of s.log) (owners_of was)
owners_after h op was s = owners_of was

abbrev pub came_to : ℕ → (op : Op) → World → ExecResult (Answer op) State → ExecResult (Answer op) World
came_to h op w Waits = Waits
came_to h op w (Ran a s) =
    let o = owners_after h op w s in
    Ran a (record {
      state = s;
      owner = o.owner;
      left = o.left;
      taken = o.taken;
      commits = commits_after h op a w.commits;
      new = new_after h op a s.log w.new;
    })
came_to h op w (Stops s) = Stops (record w { state = s })

abbrev pub exec : ℕ → Outside → (op : Op) → World → ExecResult (Answer op) World
exec h x op w = came_to h op w (steps.exec h x op w.state)
