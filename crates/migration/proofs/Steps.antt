-- Appending one part after another.
use Rattle.std.proofs.Common.{◌≡◌, ◌∙◌, ap, sym, subst, arith, ℕ, ◌+◌, ◌-◌, ◌*◌, ◌<◌, ◌≤◌, List, ◌∷◌, ◌++◌, length, drop, map, replicate, get_or, append_assoc}
use Rattle.std.proofs.lemmas.List.{drop_more, get_or-map, length-map}
use Rattle.std.proofs.lemmas.List.Sums.{sum_by-cons}
use Rattle.std.proofs.lemmas.List.FromFn.{length-range_with_len}
use Rattle.std.specs.Prelude.{min, sum_by}
use Rattle.image_versions.specs.Shared.{addresses}
use Rattle.fs_layout.specs.Widths.{block_len, inode_len, inodes_per_block}
use Rattle.image_versions.specs.Shared.{largest_size}
use Rattle.mkfs.proofs.Padding.{length-padded}
use Rattle.fs_layout.specs.Vocabulary.{flat_map}
use Rattle.image_versions.specs.declared.version.Version.{Version}
use Rattle.migration.specs.Vocabulary.{range_with_len, spell_dinode, node_blocks, data_start, inode_blocks, node_bytes, bitmap, front}
use Rattle.migration.specs.declared.node.NewNode.{NewNode}
use Rattle.migration.specs.Nodes.{Node, node_of}
use Rattle.migration.specs.Image.{blocks_of_node, data_from, image_with, inode_for, inode_table, inodes_from, used_by}
use Rattle.migration.specs.Parts.{HaveContents}

-- the node at i, and those after it
nodes-next : (nodes : List NewNode) (i : ℕ) (node : NewNode) → i < length nodes → node ≡ get_or nodes i node → drop i nodes ≡ node ∷ drop (i + 1) nodes
nodes-next nodes i node l e = drop_more nodes i node l ∙ ap (λ (n : NewNode). n ∷ drop (i + 1) nodes) (sym e)

pub inodes-next : (nodes : List NewNode) (i first : ℕ) (node : NewNode) → i < length nodes → node ≡ get_or nodes i node
    → flat_map spell_dinode (inodes_from first (map node_of (drop i nodes)))
    ≡ spell_dinode (inode_for first (node_of node))
    ++ flat_map spell_dinode (inodes_from (first + node_blocks (length node.content.items)) (map node_of (drop (i + 1) nodes)))
inodes-next nodes i first node l e =
    ap (λ (ns : List NewNode). flat_map spell_dinode (inodes_from first (map node_of ns))) (nodes-next nodes i node l e)

pub data-next : (nodes : List NewNode) (i first : ℕ) (node : NewNode) → i < length nodes → node ≡ get_or nodes i node
    → data_from first (map node_of (drop i nodes))
    ≡ node_bytes first node.content.items ++ data_from (first + node_blocks (length node.content.items)) (map node_of (drop (i + 1) nodes))
data-next nodes i first node l e = ap (λ (ns : List NewNode). data_from first (map node_of ns)) (nodes-next nodes i node l e)

pub used-next : (nodes : List NewNode) (i : ℕ) (node : NewNode) → i < length nodes → node ≡ get_or nodes i node
    → sum_by blocks_of_node (map node_of (drop i nodes))
    ≡ node_blocks (length node.content.items) + sum_by blocks_of_node (map node_of (drop (i + 1) nodes))
used-next nodes i node l e =
    ap (λ (ns : List NewNode). sum_by blocks_of_node (map node_of ns)) (nodes-next nodes i node l e)
    ∙ sum_by-cons blocks_of_node (node_of node) (map node_of (drop (i + 1) nodes))

-- none is too large
pub size-at : (nodes : List NewNode) (i : ℕ) (node : NewNode) → HaveContents (map node_of nodes) → i < length nodes → node ≡ get_or nodes i node
    → length node.content.items ≤ largest_size
size-at nodes i node h l e =
    let many : i < length (map node_of nodes) = omega (arith, length-map nodes node_of) in
    subst (λ (n : Node). length n.content ≤ largest_size) (get_or-map node_of nodes i node (node_of node) l ∙ ap node_of (sym e)) (h.each i (node_of node) many)

pub few-nodes : (nodes : List NewNode) → HaveContents (map node_of nodes) → length nodes < 65536
few-nodes nodes h = let few = h.few in omega (arith, length-map nodes node_of)

pub used-more : (nodes : List NewNode) (i : ℕ) (node : NewNode) (blocks first part : ℕ) → i < length nodes → node ≡ get_or nodes i node
    → part ≡ node_blocks (length node.content.items) → used_by blocks (map node_of (drop i nodes)) ≡ used_by first (map node_of nodes)
    → used_by (blocks + part) (map node_of (drop (i + 1) nodes)) ≡ used_by first (map node_of nodes)
used-more nodes i node blocks first part l e p h =
    let next = used-next nodes i node l e in
    let regroup : (a b r n : ℕ) → b ≡ n → a + b + r ≡ a + (n + r) = λ a b r n q. omega arith in
    regroup blocks part (sum_by blocks_of_node (map node_of (drop (i + 1) nodes))) (node_blocks (length node.content.items)) p
    ∙ ap (λ (n : ℕ). blocks + n) (sym next) ∙ h

pub length-addrs : (first : ℕ) (node : Node) → length (inode_for first node).addrs ≡ addresses
unfolding inode_for
length-addrs first node =
    let n : ℕ = min (blocks_of_node node) addresses in
    length-padded addresses (range_with_len first n) (omega (arith, length-range_with_len first n))

-- the inode blocks, as they are appended
pub table-parts : (old : List ℕ) (ninodes first k : ℕ) (nodes : List Node) → k ≡ inode_len * (inodes_per_block * inode_blocks ninodes - (1 + length nodes))
    → ((old ++ replicate inode_len 0) ++ flat_map spell_dinode (inodes_from first nodes)) ++ replicate k 0 ≡ old ++ inode_table ninodes first nodes
unfolding inode_table
table-parts old ninodes first k nodes h =
    let a : List ℕ = replicate inode_len 0 in
    let b : List ℕ = flat_map spell_dinode (inodes_from first nodes) in
    ap (λ (xs : List ℕ). xs ++ replicate k 0) (append_assoc old a b)
    ∙ append_assoc old (a ++ b) (replicate k 0)
    ∙ ap (λ (n : ℕ). old ++ ((a ++ b) ++ replicate n 0)) h

-- all parts, as they are appended
pub image-parts : (v : Version) (old : List ℕ) (size ninodes used : ℕ) (nodes : List Node) → used ≡ used_by (data_start ninodes) nodes
    → ((((old ++ front v size ninodes) ++ inode_table ninodes (data_start ninodes) nodes) ++ bitmap used) ++ data_from (data_start ninodes) nodes) ++ replicate (block_len * (size - used)) 0
    ≡ old ++ image_with v size ninodes nodes
unfolding image_with
image-parts v old size ninodes used nodes h =
    let a : List ℕ = front v size ninodes in
    let b : List ℕ = inode_table ninodes (data_start ninodes) nodes in
    let d : List ℕ = data_from (data_start ninodes) nodes in
    let c : ℕ → List ℕ = λ n. bitmap n in
    let e : ℕ → List ℕ = λ n. replicate (block_len * (size - n)) 0 in
    let all : ℕ = used_by (data_start ninodes) nodes in
    ap (λ (n : ℕ). ((((old ++ a) ++ b) ++ c n) ++ d) ++ e n) h
    ∙ ap (λ (xs : List ℕ). ((xs ++ c all) ++ d) ++ e all) (append_assoc old a b)
    ∙ ap (λ (xs : List ℕ). (xs ++ d) ++ e all) (append_assoc old (a ++ b) (c all))
    ∙ ap (λ (xs : List ℕ). xs ++ e all) (append_assoc old ((a ++ b) ++ c all) d)
    ∙ append_assoc old (((a ++ b) ++ c all) ++ d) (e all)
