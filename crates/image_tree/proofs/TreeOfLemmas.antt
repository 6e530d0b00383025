-- The nodes that an image holds, one by one.
use Rattle.image_tree.proofs.Vocabulary.{Version, ◌≡◌, ◌∙◌, ap, sym, refl, ℕ, ◌+◌, ◌<◌, ◌≤◌, Bool, true, false, not, List, [], ◌∷◌, ◌++◌, map, add-one, Option, Some, None, ◌&&◌, Dinode, Dirent, recovered, Slot, NodeKind, Directory, File, Device, Node, inode_of, is_node, is_free, is_live, is_directory, numbers_of, numbers_by, block_number, content_block, front_blocks, content_of, slots_of, slot_of, is_file, kind_of, count_of, node_of, first_nodes, Layout, IsLayout}
use Rattle.image_tree.proofs.Nodes.{numbers_by_node}
use Rattle.image_tree.proofs.EntryLemmas.{node_flag, no_node_zero}

pub front_blocks-none : (disk : List (List ℕ)) (d : Dinode) → front_blocks disk d 0 ≡ []
unfolding front_blocks
front_blocks-none disk d = refl

pub front_blocks-more : (disk now : List (List ℕ)) (d : Dinode) (numbers : List ℕ) (k b : ℕ) (bytes more block : List ℕ) → now ≡ disk → numbers ≡ numbers_of disk d
    → b ≡ block_number numbers k → block ≡ recovered now b → bytes ≡ front_blocks disk d k → more ≡ bytes ++ block → more ≡ front_blocks disk d (k + 1)
unfolding front_blocks content_block
front_blocks-more disk now d numbers k b bytes more block same is at read before e =
    let own : block ≡ content_block disk d k = read ∙ ap (λ (x : List (List ℕ)). recovered x b) same ∙ ap (recovered disk) (at ∙ ap (λ (xs : List ℕ). block_number xs k) is) in
    e ∙ ap (λ (xs : List ℕ). xs ++ block) before ∙ ap (λ (x : List ℕ). front_blocks disk d k ++ x) own ∙ ap (front_blocks disk d) (sym (add-one k))

-- the numbers of a node, as they were loaded
pub numbers_loaded : (disk later : List (List ℕ)) (i : ℕ) (d : Dinode) (shown numbers : List ℕ) → d ≡ inode_of disk i → is_free d ≡ false → shown ≡ numbers
    → numbers ≡ numbers_by disk i → later ≡ disk → shown ≡ numbers_of later d
numbers_loaded disk later i d shown numbers e used s n same =
    let free : is_free (inode_of disk i) ≡ false = rw e at used in
    s ∙ n ∙ numbers_by_node disk i free ∙ ap (numbers_of disk) (sym e) ∙ ap (λ (x : List (List ℕ)). numbers_of x d) (sym same)

pub directory_kind : (v : Version) (disk later : List (List ℕ)) (d : Dinode) (slots : List (Option Slot)) (shown entries : List (Option Dirent)) → is_directory d ≡ true
    → slots ≡ map slot_of shown → shown ≡ entries → entries ≡ slots_of v later d → later ≡ disk → Directory slots ≡ kind_of v disk d
unfolding kind_of
directory_kind v disk later d slots shown entries is s e n same =
    let own : slots ≡ map slot_of (slots_of v disk d) = s ∙ ap (map slot_of) (e ∙ n ∙ ap (λ (x : List (List ℕ)). slots_of v x d) same) in
    rw is (ap Directory own)

pub file_kind : (v : Version) (disk later : List (List ℕ)) (d : Dinode) (bytes items : List ℕ) → is_directory d ≡ false → is_file d ≡ true → bytes ≡ items → items ≡ content_of later d
    → later ≡ disk → File bytes ≡ kind_of v disk d
unfolding kind_of
file_kind v disk later d bytes items other is b e same =
    let own : bytes ≡ content_of disk d = b ∙ e ∙ ap (λ (x : List (List ℕ)). content_of x d) same in
    rw (other, is) (ap File own)

pub device_kind : (v : Version) (disk : List (List ℕ)) (d : Dinode) → is_directory d ≡ false → is_file d ≡ false → Device d.major d.minor d.size ≡ kind_of v disk d
unfolding kind_of
device_kind v disk d other neither = rw (other, neither) refl

and_false : (b : Bool) → (b && false) ≡ false
and_false true = refl
and_false false = refl

pub no_node_free : (disk : List (List ℕ)) (layout : Layout) (i : ℕ) (d : Dinode) → IsLayout disk layout → 1 ≤ i → i < layout.sizes.ninodes → d ≡ inode_of disk i
    → is_free d ≡ true → None ≡ node_of layout.version disk i
unfolding node_of
no_node_free disk layout i d h low bound e free =
    let flag : is_node disk i ≡ false = sym (node_flag disk layout i d h low bound e) ∙ ap not free in
    rw flag refl

pub no_node_dead : (v : Version) (disk : List (List ℕ)) (i : ℕ) (d : Dinode) → d ≡ inode_of disk i → is_live d ≡ false → None ≡ node_of v disk i
unfolding node_of
no_node_dead v disk i d e dead =
    let own : is_live (inode_of disk i) ≡ false = rw e at dead in
    rw (own, and_false (is_node disk i)) refl

pub node_told : (disk now : List (List ℕ)) (layout : Layout) (i count : ℕ) (d : Dinode) (kind : NodeKind) → IsLayout disk layout → 1 ≤ i → i < layout.sizes.ninodes → d ≡ inode_of disk i
    → is_free d ≡ false → is_live d ≡ true → count ≡ count_of d.nlink → kind ≡ kind_of layout.version now d → now ≡ disk
    → Some (record { count = count; kind = kind }) ≡ node_of layout.version disk i
unfolding node_of
node_told disk now layout i count d kind h low bound e used live n k same =
    let flag : is_node disk i ≡ true = sym (node_flag disk layout i d h low bound e) ∙ ap not used in
    let own : is_live (inode_of disk i) ≡ true = rw e at live in
    rw (flag, own, n, k, same, e) refl

pub nodes_one : (v : Version) (disk : List (List ℕ)) (before after : List (Option Node)) → before ≡ [] → after ≡ before ++ None ∷ [] → after ≡ first_nodes v disk 1
unfolding first_nodes node_of
nodes_one v disk before after none e = e ∙ ap (λ (xs : List (Option Node)). xs ++ None ∷ []) none ∙ (rw (no_node_zero disk) refl)

pub nodes_more : (v : Version) (disk now : List (List ℕ)) (i : ℕ) (node : Option Node) (before after : List (Option Node)) → now ≡ disk → node ≡ node_of v now i
    → before ≡ first_nodes v disk i → after ≡ before ++ node ∷ [] → after ≡ first_nodes v disk (i + 1)
unfolding first_nodes
nodes_more v disk now i node before after same is b e =
    e ∙ ap (λ (xs : List (Option Node)). xs ++ node ∷ []) b
    ∙ ap (λ (x : Option Node). first_nodes v disk i ++ x ∷ []) (is ∙ ap (λ (x : List (List ℕ)). node_of v x i) same) ∙ ap (first_nodes v disk) (sym (add-one i))
