-- What an image shows of its nodes.
use Rattle.mkfs.proofs.Vocabulary.{Version, ◌≡◌, ◌∙◌, ap, sym, ℕ, ◌≤◌, List, length, All, Super, super_for, Node, nodes_with, root_content, CanBeMade}
use Rattle.mkfs.proofs.Basics.{Fits, disk_of, length-disk, sizes-there, count-there, log-empty, recovered-there, Shows}
use Rattle.mkfs.proofs.Records.{IsNode, are-nodes}
use Rattle.mkfs.proofs.Wanted.{fits}
use Rattle.mkfs.proofs.NodeInodes.{inode-is}
use Rattle.mkfs.proofs.NodeNumbers.{numbers-there}
use Rattle.mkfs.proofs.NodeContents.{content-there}
use Rattle.mkfs.proofs.FreeInodes.{free-there}
use Rattle.mkfs.proofs.BitmapBits.{marked-there}

pub shows : (v : Version) (size ninodes : ℕ) (nodes : List Node) → ninodes ≤ 65535 → Fits size ninodes nodes → All IsNode nodes
    → Shows (disk_of v size ninodes nodes) size ninodes nodes
shows v size ninodes nodes few h all = record {
  long = length-disk v size ninodes nodes h;
  sizes =
      let there = sizes-there v size ninodes nodes few h in
      there ∙ ap (λ (s : Super). super_for s.version size ninodes) (sym there);
  count = count-there v size ninodes nodes few h;
  empty = log-empty v size ninodes nodes few h;
  stands = λ b. recovered-there v size ninodes nodes b few h;
  inode = λ j d l. inode-is v size ninodes nodes j d few h all l;
  free = λ i l m. free-there v size ninodes nodes i few h l m;
  bits = λ b l. marked-there v size ninodes nodes b few h l;
  numbers = λ j n l. numbers-there v size ninodes nodes j n few h all l;
  content = λ j k n l m. content-there v size ninodes nodes j k n few h all l m;
}

-- the image of what can be made
pub image-shows : (v : Version) (size ninodes : ℕ) (names contents : List (List ℕ)) → length names ≡ length contents → CanBeMade v size ninodes names contents
    → Shows (disk_of v size ninodes (nodes_with (root_content v names) contents)) size ninodes (nodes_with (root_content v names) contents)
image-shows v size ninodes names contents many can =
    let nodes : List Node = nodes_with (root_content v names) contents in
    let h : Fits size ninodes nodes = fits v size ninodes names contents many can in
    shows v size ninodes nodes can.0.0.0.0.few_inodes h (are-nodes (root_content v names) contents h.contents)
