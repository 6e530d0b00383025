-- What a mount gives: a world below that shows the image's tree, with every hart at rest.
use Rattle.std.specs.Prelude.{◌≡◌, ℕ, List, [], None, replicate}
use Rattle.inodes_on_blocks.specs.Vocabulary.{HasBytes, HasWholeBlocks, logged, sizes_of, buffer_count, unused_from, Open, IsPlaced, tree_of, settle, IsWellFormed, tree_in, fresh, LogPart, State, Idle, Inv, at_rest}
use Rattle.buffer_cache.specs.Limits.{hart_count}
use Rattle.inodes_on_blocks.specs.Basics.{owner_in, left_in, World, disk_of, Shows, Stands, nothing}
use Rattle.inode_machine.specs.World as above

-- a disk that can be mounted: whole blocks of bytes, a well-formed image, and nothing in its log
pub record IsMountable (disk : List (List ℕ)) : Type 0 where
  pub whole : HasWholeBlocks disk
  pub bytes : HasBytes disk
  pub placed : IsPlaced disk (sizes_of disk)
  pub well : IsWellFormed disk
  pub empty : logged disk ≡ []

-- over it, on a device that has failed so often, nothing is cached or recorded, and nobody is in a transaction
abbrev pub resting_log : List (List ℕ) → ℕ → LogPart
resting_log disk failures = record {
  contents = disk;
  failures = failures;
  seats = unused_from 0 buffer_count;
  sizes = sizes_of disk;
  group = [];
  members = replicate hart_count None;
  phase = Open;
}

abbrev pub resting_state : List (List ℕ) → ℕ → State
resting_state disk failures = record { log = resting_log disk failures; tables = fresh }

-- the blocks are those of the inodes that name them, and any other bit that is set is left over
abbrev pub mounted : List (List ℕ) → ℕ → World
mounted disk failures = record {
  state = resting_state disk failures;
  owner = owner_in (disk_of (resting_log disk failures));
  left = left_in (disk_of (resting_log disk failures));
  taken = λ b. None;
  commits = None;
  new = λ n. None;
}

-- the image's tree, with every hart in the root and nothing open; an inode without a name is no node of it
abbrev pub first_world : List (List ℕ) → above.World
first_world disk = at_rest (tree_of (tree_in disk))

pub record ShowsItsTree (disk : List (List ℕ)) (failures : ℕ) : Type 0 where
  pub shows : Shows (mounted disk failures) (first_world disk)
  pub inv : Inv (first_world disk)
  pub idle : (h : ℕ) → Idle h (first_world disk)
  pub stands : (h : ℕ) → Stands (sizes_of disk) h (mounted disk failures) (first_world disk) nothing
  pub settled : settle (first_world disk).all ≡ tree_of (tree_in disk)

-- A mount shows the tree of its image: whatever its harts do begins with that.
abbrev pub MountsShowTheirTrees : Type 0
MountsShowTheirTrees = (disk : List (List ℕ)) (failures : ℕ) → IsMountable disk → ShowsItsTree disk failures
