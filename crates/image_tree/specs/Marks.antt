-- What a table means.
use Rattle.std.specs.Prelude.{◌≡◌, ◌↔◌, ℕ, ◌<◌, min, Bool, true, false, List, length, slice_index, slice_index_or, Contains}
use Rattle.image_tree.specs.Lists.{gathered, times}
use Rattle.image_tree.specs.Inodes.{is_node, last}
use Rattle.image_tree.specs.Links.{up, named_in, further_in, proper_in, parent_of}
use Rattle.image_tree.specs.declared.links.Links.{Links}
use Rattle.image_tree.specs.Vocabulary.{Version, sizes_of}

-- exactly the numbers of the list are marked
pub record Marks (seen : List Bool) (xs : List ℕ) : Type 0 where
  pub says : (b : ℕ) → b < 8192 → ((slice_index_or seen b false ≡ true) ↔ Contains xs b)

-- how often each number is in the list; a table stops at the greatest u16
pub record Tallies (table : List ℕ) (xs : List ℕ) : Type 0 where
  pub says : (i : ℕ) → i < length table → slice_index table i ≡ min (times i xs) 65535

-- exactly the nodes are marked
pub record IsNodeTable (disk : List (List ℕ)) (nodes : List Bool) : Type 0 where
  pub says : (i : ℕ) → slice_index_or nodes i false ≡ is_node disk i

-- the ".." of each live directory, and 0 for any other inode
pub record IsUpTable (v : Version) (disk : List (List ℕ)) (ups : List ℕ) : Type 0 where
  pub says : (i : ℕ) → slice_index ups i ≡ up v disk i
  pub length : length ups ≡ (sizes_of disk).ninodes

-- ---- all tables of an image

pub record IsLinks (v : Version) (disk : List (List ℕ)) (links : Links) : Type 0 where
  pub ups : IsUpTable v disk links.ups.items
  pub names : Tallies links.names.items (gathered (named_in v disk) (last disk))
  pub further : Tallies links.further.items (gathered (further_in v disk) (last disk))
  pub proper : Tallies links.proper.items (gathered (proper_in v disk) (last disk))
  pub children : Tallies links.children.items (gathered (parent_of v disk) (last disk))
  pub names_length : length links.names.items ≡ (sizes_of disk).ninodes
  pub further_length : length links.further.items ≡ (sizes_of disk).ninodes
  pub proper_length : length links.proper.items ≡ (sizes_of disk).ninodes
  pub children_length : length links.children.items ≡ (sizes_of disk).ninodes
