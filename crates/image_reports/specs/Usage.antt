-- What an image's blocks and inodes are used for.
use Rattle.std.specs.Prelude.{ℕ, ◌+◌, ◌-◌, nat_lt, Bool, true, false, ◌&&◌, not, if◌then◌else◌, List, [], ◌++◌, length, Option, codes, decimal}
use Rattle.image_reports.specs.Vocabulary.{Appends, Dinode, IsWellFormed, count_upto, gathered, inode_of, is_live, is_live_node, is_marked, is_orphan, last, named_by, sizes_of, version_in}
use Rattle.image_reports.specs.declared.usage.Usage.{Usage}

-- its count is above 0, or isn't
abbrev pub has_name_as : Bool → Dinode → Bool
has_name_as true d = is_live d
has_name_as false d = not (is_live d)

-- the blocks of inode i, if it has a name or has none, as is asked
abbrev pub blocks_by : List (List ℕ) → Bool → ℕ → List ℕ
blocks_by disk live i = if has_name_as live (inode_of disk i) then named_by disk i else []

-- a block of data that is marked as used
abbrev pub is_marked_data : List (List ℕ) → ℕ → Bool
is_marked_data disk b = nat_lt (sizes_of disk).bmapstart b && is_marked disk b

abbrev pub usage_of : List (List ℕ) → Usage
usage_of disk = record {
  blocks = (sizes_of disk).size;
  front = (sizes_of disk).bmapstart + 1;
  marked = count_upto (is_marked_data disk) ((sizes_of disk).size - 1);
  named = length (gathered (blocks_by disk true) (last disk));
  unnamed = length (gathered (blocks_by disk false) (last disk));
  inodes = (sizes_of disk).ninodes;
  live = count_upto (is_live_node disk) (last disk);
  orphans = count_upto (is_orphan disk) (last disk);
}

-- The blocks that nodes name are all marked, and no two of them are one (checks 56 and 57). So nothing names the other marked ones.
abbrev pub lost : Usage → ℕ
lost u = u.marked - u.named - u.unnamed

abbrev pub free_blocks : Usage → ℕ
free_blocks u = u.blocks - u.front - u.marked

-- inode 0 is never used
abbrev pub free_inodes : Usage → ℕ
free_inodes u = u.inodes - 1 - u.live - u.orphans

abbrev pub used_text : Usage → List ℕ
used_text u =
    codes "blocks: " ++ decimal u.front ++ codes " before the data, " ++ decimal u.named ++ codes " of nodes with a name, " ++ decimal u.unnamed
    ++ codes " of nodes without, "

abbrev pub unused_text : Usage → List ℕ
unused_text u =
    decimal (lost u) ++ codes " marked and named by nothing, " ++ decimal (free_blocks u) ++ codes " free, " ++ decimal u.blocks
    ++ codes " in total\n"

abbrev pub nodes_text : Usage → List ℕ
nodes_text u = codes "inodes: " ++ decimal u.live ++ codes " of nodes with a name, " ++ decimal u.orphans ++ codes " of nodes without, "

abbrev pub free_text : Usage → List ℕ
free_text u = codes "1 never used, " ++ decimal (free_inodes u) ++ codes " free, " ++ decimal u.inodes ++ codes " in total\n"

-- a line of the blocks, and one of the inodes
abbrev pub usage_text : Usage → List ℕ
usage_text u = used_text u ++ unused_text u ++ nodes_text u ++ free_text u

-- the image is well formed, and the writer got the lines of its usage
pub record TellsUsage (disk : List (List ℕ)) (out out' : Option (List ℕ)) : Type 0 where
  pub good : IsWellFormed (version_in disk) disk
  pub printed : Appends out out' (usage_text (usage_of disk))
