-- The nodes as they are loaded.
use Rattle.std.proofs.Common.{◌≡◌, ◌∙◌, sym, refl, ap, Bool, true, false, not, ◌&&◌, ℕ, suc, ◌+◌, ◌-◌, ◌<◌, ◌≤◌, arith, List, [], ◌∷◌, ◌++◌, map}
use Rattle.std.proofs.lemmas.List.{map-append}
use Rattle.image_versions.specs.declared.version.Version.{Version}
use Rattle.fs_layout.specs.declared.superblock.Super.{Super}
use Rattle.image_tree.specs.Inodes.{is_free}
use Rattle.image_tree.specs.Layout.{IsLayout}
use Rattle.image_tree.specs.declared.disk.Layout.{Layout}
use Rattle.image_tree.proofs.EntryLemmas.{node_flag}
use Rattle.migration.specs.Vocabulary.{Dinode, inode_of, is_live, is_node, last, sizes_of}
use Rattle.migration.specs.declared.node.NewNode.{NewNode}
use Rattle.migration.specs.Nodes.{Node, free_node, node_of}
use Rattle.migration.specs.Kept.{content_as, new_node, new_nodes, node_with, nodes_upto}

and_false : (b : Bool) → (b && false) ≡ false
and_false true = refl
and_false false = refl

pub free_stays : (w v : Version) (disk : List (List ℕ)) (layout : Layout) (i : ℕ) (d : Dinode) (node : Node) → IsLayout disk layout → 1 ≤ i → i < layout.sizes.ninodes
    → d ≡ inode_of disk i → is_free d ≡ true → node ≡ free_node → node ≡ new_node w v disk i
unfolding new_node
free_stays w v disk layout i d node h low bound e free is =
    let flag : is_node disk i ≡ false = sym (node_flag disk layout i d h low bound e) ∙ ap not free in
    is ∙ (rw flag refl)

pub dead_goes : (w v : Version) (disk : List (List ℕ)) (i : ℕ) (d : Dinode) (node : Node) → d ≡ inode_of disk i → is_live d ≡ false → node ≡ free_node
    → node ≡ new_node w v disk i
unfolding new_node
dead_goes w v disk i d node e dead is =
    let own : is_live (inode_of disk i) ≡ false = rw e at dead in
    is ∙ (rw (own, and_false (is_node disk i)) refl)

pub live_stays : (w v : Version) (disk now : List (List ℕ)) (layout : Layout) (i : ℕ) (d : Dinode) (content : List ℕ) → IsLayout disk layout → 1 ≤ i → i < layout.sizes.ninodes
    → d ≡ inode_of disk i → is_free d ≡ false → is_live d ≡ true → content ≡ content_as w v now d → now ≡ disk → node_with d content ≡ new_node w v disk i
unfolding new_node
live_stays w v disk now layout i d content h low bound e used live is same =
    let flag : is_node disk i ≡ true = sym (node_flag disk layout i d h low bound e) ∙ ap not used in
    let own : is_live (inode_of disk i) ≡ true = rw e at live in
    rw (flag, own, is, same, e) refl

pub nodes_none : (w v : Version) (disk : List (List ℕ)) (nodes : List NewNode) → nodes ≡ [] → map node_of nodes ≡ nodes_upto w v disk 0
unfolding nodes_upto
nodes_none w v disk nodes is = ap (map node_of) is

pub nodes_more : (w v : Version) (disk now : List (List ℕ)) (i : ℕ) (node : NewNode) (before after : List NewNode) → 1 ≤ i → now ≡ disk
    → node_of node ≡ new_node w v now i → map node_of before ≡ nodes_upto w v disk (i - 1) → after ≡ before ++ node ∷ []
    → map node_of after ≡ nodes_upto w v disk (i + 1 - 1)
unfolding nodes_upto
nodes_more w v disk now i node before after low same is b e =
    let here : i ≡ suc (i - 1) = omega arith in
    let next : suc (i - 1) ≡ i + 1 - 1 = omega arith in
    ap (map node_of) e ∙ map-append node_of before (node ∷ [])
    ∙ ap (λ (xs : List Node). xs ++ node_of node ∷ []) b
    ∙ ap (λ (x : Node). nodes_upto w v disk (i - 1) ++ x ∷ []) (is ∙ ap (λ (x : List (List ℕ)). new_node w v x i) same ∙ ap (new_node w v disk) here)
    ∙ ap (nodes_upto w v disk) next

pub nodes_all : (w v : Version) (disk : List (List ℕ)) (layout : Layout) (i : ℕ) (nodes : List NewNode) → IsLayout disk layout
    → layout.sizes.ninodes ≤ i → (1 ≤ layout.sizes.ninodes → i ≤ layout.sizes.ninodes) → map node_of nodes ≡ nodes_upto w v disk (i - 1)
    → map node_of nodes ≡ new_nodes w v disk
nodes_all w v disk layout i nodes h past within is =
    let some : 2 ≤ (sizes_of disk).ninodes = h.good.0.0.1.1.few_inodes in
    let own : layout.sizes.ninodes ≡ (sizes_of disk).ninodes = ap (λ (s : Super). s.ninodes) h.sizes in
    let end : i - 1 ≡ last disk = omega arith in
    is ∙ ap (nodes_upto w v disk) end
