-- The sizes of a disk on which calls run.
use Rattle.std.specs.Prelude.{◌<◌, ◌≤◌, ◌^◌}
use Rattle.inode_parts.specs.Vocabulary.{bits_per_block, Super}

-- every inode's block has a number, every block has a bit, and there are inodes
pub record IsSized (sizes : Super) : Type 0 where
  pub early : sizes.inodestart < 2 ^ 28
  pub size : sizes.size ≤ bits_per_block
  pub some : 0 < sizes.ninodes
  pub few : sizes.ninodes < 2 ^ 16
