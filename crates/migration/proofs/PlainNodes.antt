-- The blocks of nodes are those of files with the same contents, so what is known of an image of files is known of them.
use Rattle.std.proofs.Common.{◌≡◌, ◌∙◌, sym, refl, ap, subst, arith, ℕ, ◌+◌, ◌<◌, ◌≤◌, true, List, [], ◌∷◌, ◌++◌, length, map, get_or, sum_by, FitsSigned, w16, inr, rules}
use Rattle.std.proofs.lemmas.List.{get_or-map, length-map}
use Rattle.std.proofs.lemmas.List.Elements.{All-map}
use Rattle.std.proofs.lemmas.List.Sums.{sum_by-cons}
use Rattle.std.specs.Prelude.{All}
use Rattle.image_versions.specs.Shared.{most_disk_blocks}
use Rattle.image_versions.specs.Shared.{largest_size}
use Rattle.image_tree.specs.Inodes.{is_number}
use Rattle.mkfs.specs.Image.{Node as File, blocks_of_node as blocks_of_file, data_from as files_from, used_by as used_by_files, file_node}
use Rattle.mkfs.proofs.Lengths.{Fits}
use Rattle.mkfs.proofs.Records.{IsNode}
use Rattle.mkfs.proofs.ShownInodes.{IsKind}
use Rattle.migration.specs.Vocabulary.{data_start, node_bytes}
use Rattle.migration.specs.Nodes.{Node}
use Rattle.migration.specs.Image.{blocks_of_node, data_from, used_by}

-- a file with a node's content
abbrev pub plain : Node → File
plain node = file_node node.content

abbrev pub plains : List Node → List File
plains nodes = map plain nodes

-- ---- what an image can have

-- its inode can say so, and a free one names no blocks
pub record IsSound (node : Node) : Type 0 where
  pub kind : FitsSigned w16 node.kind
  pub major : FitsSigned w16 node.major
  pub minor : FitsSigned w16 node.minor
  pub nlink : FitsSigned w16 node.nlink
  pub size : length node.content ≤ largest_size
  pub none : is_number 0 node.kind ≡ true → node.content ≡ []

-- they fit, and each inode except the first is one's
pub record IsLaid (size ninodes : ℕ) (nodes : List Node) : Type 0 where
  pub few : size ≤ most_disk_blocks
  pub some : 2 ≤ ninodes
  pub many : ninodes ≤ 65535
  pub count : 1 + length nodes ≡ ninodes
  pub room : used_by (data_start ninodes) nodes ≤ size
  pub each : All IsSound nodes

-- ---- the same blocks

pub data-same : (first : ℕ) (nodes : List Node) → files_from first (plains nodes) ≡ data_from first nodes
data-same first [] = refl
data-same first (node ∷ nodes) = ap (λ (xs : List ℕ). node_bytes first node.content ++ xs) (data-same (first + blocks_of_node node) nodes)

sum-same : (nodes : List Node) → sum_by blocks_of_file (plains nodes) ≡ sum_by blocks_of_node nodes
sum-same [] = refl
sum-same (node ∷ nodes) =
    sum_by-cons blocks_of_file (plain node) (plains nodes)
    ∙ ap (λ (n : ℕ). blocks_of_node node + n) (sum-same nodes)
    ∙ sym (sum_by-cons blocks_of_node node nodes)

pub used-same : (first : ℕ) (nodes : List Node) → used_by_files first (plains nodes) ≡ used_by first nodes
used-same first nodes = ap (λ (n : ℕ). first + n) (sum-same nodes)

pub plain-at : (nodes : List Node) (j : ℕ) (n : Node) (f : File) → j < length nodes → get_or (plains nodes) j f ≡ plain (get_or nodes j n)
plain-at nodes j n f l = get_or-map plain nodes j n f l

pub plain-count : (nodes : List Node) → length (plains nodes) ≡ length nodes
plain-count nodes = length-map nodes plain

-- ---- the files are good ones

pub plains-fit : (size ninodes : ℕ) (nodes : List Node) → IsLaid size ninodes nodes → Fits size ninodes (plains nodes)
plains-fit size ninodes nodes h = record {
  few = h.few;
  inodes = omega (arith, plain-count nodes, h.count);
  contents = All-map (λ (file : File). length file.content ≤ largest_size) plain nodes (λ i d l. (h.each i d l).size);
  room = subst (λ (n : ℕ). n ≤ size) (sym (used-same (data_start ninodes) nodes)) h.room;
}

pub plains-are : (size ninodes : ℕ) (nodes : List Node) → IsLaid size ninodes nodes → All IsNode (plains nodes)
plains-are size ninodes nodes h =
    All-map IsNode plain nodes (λ i d l. record { kind = first_of (omega arith, search rules); size = (h.each i d l).size })

pub plains-kinds : (nodes : List Node) → All IsKind (plains nodes)
plains-kinds nodes = All-map IsKind plain nodes (λ i d l. record { kind = inr refl })
