-- The check of sizes passes.
use Rattle.fs_layout.specs.Widths.{block_len}
use Rattle.image_versions.specs.Shared.{largest_size}
use Rattle.mkfs.proofs.Vocabulary.{Version, dirent_len_of, ◌≡◌, ◌≢◌, ℕ, zero, suc, ◌+◌, ◌*◌, ◌%◌, ◌<◌, ◌≤◌, true, false, List, [], length, get_or, ap, ◌∙◌, sym, refl, subst, arith, All, false≢true, Super, Dinode, sizes_of, inode_of, is_number, is_free, numbers_of, block_number, IsFittingSize, IsGoodSize, HasGoodSizes, node_is, data_start, node_blocks, root_size, Node, root_node, nodes_with, inode_for, blocks_before}
use Rattle.mkfs.proofs.RootSizes.{first-two, whole-slots}
use Rattle.mkfs.proofs.Basics.{AreNodes, in-range, Shows, IsRange}
use Rattle.mkfs.proofs.NodeBlocks.{place}
use Rattle.mkfs.proofs.NodeContents.{place-within}
use Rattle.mkfs.proofs.ShownInodes.{by-place, inode-shown, file-at}

-- a directory has whole slots, and its first two
pub record HasSlots (v : Version) (node : Node) : Type 0 where
  pub slots : is_number 1 node.kind ≡ true → (2 * dirent_len_of v ≤ length node.content) × (length node.content % dirent_len_of v ≡ 0)

pub have-slots : (v : Version) (root : List ℕ) (contents : List (List ℕ)) (files : ℕ) → length root ≡ root_size v files → All (HasSlots v) (nodes_with root contents)
have-slots v root contents files h zero n l =
    record { slots = λ _. subst (λ (size : ℕ). (2 * dirent_len_of v ≤ size) × (size % dirent_len_of v ≡ 0)) (sym h) (first-two v files, whole-slots v files) }
have-slots v root contents files h (suc j) n l =
    let is = file-at contents j n (omega arith) in
    subst (HasSlots v) (sym is) (record { slots = λ e. absurd (false≢true e) })

fitting : (v : Version) (first : ℕ) (node : Node) → length node.content ≤ largest_size → HasSlots v node → IsFittingSize v (inode_for first node)
unfolding inode_for
fitting v first node few h = record { limit = few; slots = λ e _. h.slots e }

-- the number of a block of its content is that of a block of the node
block-named : (numbers : List ℕ) (first size k : ℕ) → 0 < first → IsRange numbers first (node_blocks size) → block_len * k < size → block_number numbers k ≢ 0
block-named numbers first size k some range l e =
    let number : block_number numbers k ≡ first + place k = in-range numbers first (node_blocks size) (place k) range (place-within size k l) in
    omega (arith, number, e)

size-for : (first : ℕ) (node : Node) → (inode_for first node).size ≡ length node.content
unfolding inode_for
size-for first node = refl

node-size : (v : Version) (disk : List (List ℕ)) (size ninodes : ℕ) (nodes : List Node) (j : ℕ) (n : Node) → Shows disk size ninodes nodes → AreNodes nodes → All (HasSlots v) nodes → j < length nodes
    → IsGoodSize v disk (inode_of disk (j + 1))
node-size v disk size ninodes nodes j n shows few slots l =
    let first : ℕ = data_start ninodes + blocks_before j nodes in
    let node : Node = get_or nodes j n in
    let is = inode-shown disk size ninodes nodes j n shows l in
    let long : (inode_of disk (j + 1)).size ≡ length node.content = ap (λ (d : Dinode). d.size) is ∙ size-for first node in
    record {
      fits = subst (IsFittingSize v) (sym is) (fitting v first node (few j n l) (slots j n l));
      named = λ k below.
          block-named (numbers_of disk (inode_of disk (j + 1))) first (length node.content) k (omega arith) (shows.numbers j n l) (subst (λ (s : ℕ). block_len * k < s) long below);
    }

pub has_sizes : (v : Version) (disk : List (List ℕ)) (size ninodes : ℕ) (nodes : List Node) → Shows disk size ninodes nodes → AreNodes nodes → All (HasSlots v) nodes → HasGoodSizes v disk
has_sizes v disk size ninodes nodes shows few slots i node =
    let is = node_is disk i node in
    let same : (sizes_of disk).ninodes ≡ ninodes = ap (λ (s : Super). s.ninodes) shows.sizes in
    by-place (λ k. is_free (inode_of disk k) ≡ false → IsGoodSize v disk (inode_of disk k)) (length nodes) ninodes
    (λ j l _. node-size v disk size ninodes nodes j (root_node []) shows few slots l)
    (λ k l m used. absurd (false≢true (sym used ∙ ap is_free (shows.free k l m))))
    i is.low (omega (arith, same, is.bound)) is.used
