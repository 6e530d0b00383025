-- An image that can be made passes the checks of its slots, its tree and its counts, and holds the tree that is stated.
use Rattle.mkfs.proofs.Vocabulary.{Version, ◌≡◌, ℕ, List, length, HasGoodSlots, IsOneTree, HasGoodCounts, UpToSizes, IsWellFormed, tree_in, root_content, nodes_with, CanBeMade, stated_tree}
use Rattle.mkfs.proofs.Basics.{Shows}
use Rattle.mkfs.proofs.FilesShown.{shown_files}
use Rattle.mkfs.proofs.SlotChecks.{has_good_slots}
use Rattle.mkfs.proofs.LinkChecks.{is_one_tree, has_good_counts}
use Rattle.mkfs.proofs.TreeShown.{tree_is}

module _ (v : Version) (disk : List (List ℕ)) (size ninodes : ℕ) (names contents : List (List ℕ)) (shows : Shows disk size ninodes (nodes_with (root_content v names) contents))
    (many : length names ≡ length contents) (can : CanBeMade v size ninodes names contents) where
  pub shown_slots : HasGoodSlots v disk
  shown_slots = has_good_slots v disk ninodes names contents (shown_files v disk size ninodes names contents shows many can)

  pub shown_one_tree : IsOneTree v disk
  shown_one_tree = is_one_tree v disk ninodes names contents (shown_files v disk size ninodes names contents shows many can)

  pub shown_counts : HasGoodCounts v disk
  shown_counts = has_good_counts v disk ninodes names contents (shown_files v disk size ninodes names contents shows many can)

  pub shown_tree : tree_in v disk ≡ stated_tree v ninodes names contents
  shown_tree = tree_is v disk ninodes names contents (shown_files v disk size ninodes names contents shows many can)

  -- with the checks before these, all of them
  pub shown_well_formed : UpToSizes v disk → IsWellFormed v disk
  shown_well_formed sizes = (((sizes, shown_slots), shown_one_tree), shown_counts)
