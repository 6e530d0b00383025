-- An image with the same live nodes as a well-formed one, and the same slots in their places, is as good, and holds the same tree.
use Rattle.std.proofs.Common.{◌≡◌, ◌∙◌, sym, refl, ap, subst, Bool, true, false, ◌==◌, ◌&&◌, not, ℕ, zero, suc, ◌-◌, List, [], ◌∷◌, ◌++◌, drop, filter, slice_index_or, Option, Some, None}
use Rattle.image_versions.specs.declared.version.Version.{Version}
use Rattle.plain_tree.specs.Fresh.{at_rest}
use Rattle.plain_tree.specs.declared.node.Node.{Node}
use Rattle.plain_tree.specs.declared.node.NodeKind.{NodeKind}
use Rattle.image_tree.specs.Checks.{AreGoodSlots, HasGoodCounts, HasGoodSlots, IsGoodCount, IsOneTree}
use Rattle.image_tree.specs.Inodes.{is_number, is_positive}
use Rattle.image_tree.specs.Links.{Reaches, children_of, further_names_of, names_of, number_in, proper_names_of, slot_numbers, slots_in, up}
use Rattle.image_tree.specs.Lists.{gathered, times}
use Rattle.image_tree.specs.Trees.{count_of, first_nodes, kind_of, node_of}
use Rattle.image_tree.proofs.Contents.{pick}
use Rattle.image_tree.proofs.Nodes.{both, both_from}
use Rattle.image_tree.proofs.Unnamed.{unnamed}
use Rattle.migration.specs.Vocabulary.{Dinode, Dirent, inode_of, is_live, is_live_directory, is_node, sizes_of, tree_in}

-- image e of version v has the live nodes of image d of version w, and no others
pub record IsLike (w v : Version) (d e : List (List ℕ)) : Type 0 where
  pub ninodes : (sizes_of e).ninodes ≡ (sizes_of d).ninodes
  pub node : (i : ℕ) → is_node e i ≡ (is_node d i && is_live (inode_of d i))
  pub live : (i : ℕ) → is_live_directory e i ≡ is_live_directory d i
  pub slots : (i : ℕ) → slots_in v e i ≡ slots_in w d i
  pub kind : (i : ℕ) → is_node e i ≡ true → (inode_of e i).kind ≡ (inode_of d i).kind
  pub nlink : (i : ℕ) → is_node e i ≡ true → (inode_of e i).nlink ≡ (inode_of d i).nlink
  pub shown : (i : ℕ) → is_node e i ≡ true → kind_of v e (inode_of e i) ≡ kind_of w d (inode_of d i)

abbrev a_node : NodeKind → Dinode → Node
a_node k x = record { count = count_of x.nlink; kind = k }

-- a count is judged by the kind and the count alone
count_same : (x y : Dinode) (names further children : ℕ) → y.kind ≡ x.kind → y.nlink ≡ x.nlink → IsGoodCount x names further children → IsGoodCount y names further children
count_same x y names further children kind nlink good = record {
  file = λ other. nlink ∙ good.file (ap (is_number 1) (sym kind) ∙ other);
  directory = λ is live. nlink ∙ good.directory (ap (is_number 1) (sym kind) ∙ is) (ap is_positive (sym nlink) ∙ live);
  dead = λ is dead. good.dead (ap (is_number 1) (sym kind) ∙ is) (ap is_positive (sym nlink) ∙ dead);
}

node_some : (v : Version) (d : List (List ℕ)) (i : ℕ) → is_node d i ≡ true → is_live (inode_of d i) ≡ true
    → node_of v d i ≡ Some (a_node (kind_of v d (inode_of d i)) (inode_of d i))
unfolding node_of
node_some v d i is live = rw (is, live) refl

node_none : (v : Version) (d : List (List ℕ)) (i : ℕ) → (is_node d i && is_live (inode_of d i)) ≡ false → node_of v d i ≡ None
unfolding node_of
node_none v d i gone = rw gone refl

module _ (w v : Version) (d e : List (List ℕ)) (like : IsLike w v d e) (slots_d : HasGoodSlots w d) (tree_d : IsOneTree w d) (counts_d : HasGoodCounts w d) where
  left : (i : ℕ) → is_node e i ≡ true → (is_node d i ≡ true) × (is_live (inode_of d i) ≡ true)
  left i is = both (is_node d i) (is_live (inode_of d i)) (sym (like.node i) ∙ is)

  all_slots : slots_in v e ≡ slots_in w d
  all_slots = λ j i. like.slots i j

  ups : up v e ≡ up w d
  ups = λ j i. number_in (slice_index_or (all_slots j i) 1 None)

  all_names : names_of v e ≡ names_of w d
  all_names = λ j i. times i (gathered (λ n. slot_numbers (all_slots j n)) (like.ninodes j - 1))

  all_further : further_names_of v e ≡ further_names_of w d
  all_further = λ j i. times i (gathered (λ n. slot_numbers (drop 2 (all_slots j n))) (like.ninodes j - 1))

  all_proper : proper_names_of v e ≡ proper_names_of w d
  all_proper = λ j i. times i (gathered (λ n. filter (λ m. ups j m == n) (slot_numbers (drop 2 (all_slots j n)))) (like.ninodes j - 1))

  all_children : children_of v e ≡ children_of w d
  all_children = λ j i. times i (gathered (λ n. filter (λ m. not (m == n)) (ups j n ∷ [])) (like.ninodes j - 1))

  -- what a live directory names is live
  named_live : (j n : ℕ) → is_live_directory d j ≡ true → is_node d n ≡ true → ((dead : is_live (inode_of d n) ≡ false) → ⊥) → is_node e n ≡ true
  named_live j n live node alive =
      like.node n
      ∙ both_from (is_node d n) (is_live (inode_of d n)) node
      (pick (is_live (inode_of d n)) (λ t. is_live (inode_of d n) ≡ t → is_live (inode_of d n) ≡ true) (λ _ is. is) (λ _ dead. absurd (alive dead)) refl)

  pub like_slots : HasGoodSlots v e
  like_slots j is =
      let live : is_live_directory d j ≡ true = sym (like.live j) ∙ is in
      let old = slots_d j live in
      subst (λ (slots : List (Option Dirent)). AreGoodSlots (is_node e) j slots) (sym (like.slots j)) (record {
        first = old.first;
        second = old.second;
        entries = old.entries;
        nodes = λ k z lt.
            named_live j (slice_index_or (slot_numbers (slots_in w d j)) k z) live (old.nodes k z lt)
            (λ dead. unnamed w d (slice_index_or (slot_numbers (slots_in w d j)) k z) (old.nodes k z lt) dead slots_d tree_d counts_d j live k z lt refl);
        names = old.names;
      })

  pub like_tree : IsOneTree v e
  like_tree = record {
    root = ap (λ (g : ℕ → ℕ). g 1) ups ∙ tree_d.root;
    root_unnamed = ap (λ (g : ℕ → ℕ). g 1) all_further ∙ tree_d.root_unnamed;
    named = λ j is ne. ap (λ (g : ℕ → ℕ). g j) all_further ∙ tree_d.named j (sym (like.live j) ∙ is) ne;
    proper = λ j is ne. ap (λ (g : ℕ → ℕ). g j) all_proper ∙ tree_d.proper j (sym (like.live j) ∙ is) ne;
    reaches = λ j is. subst (λ (g : ℕ → ℕ). Reaches g j) (sym ups) (tree_d.reaches j (sym (like.live j) ∙ is));
  }

  pub like_counts : HasGoodCounts v e
  like_counts j is =
      let was = left j is in
      count_same (inode_of d j) (inode_of e j) (names_of v e j) (further_names_of v e j) (children_of v e j) (like.kind j is) (like.nlink j is)
      (subst (λ (g : ℕ → ℕ). IsGoodCount (inode_of d j) (g j) (further_names_of v e j) (children_of v e j)) (sym all_names)
      (subst (λ (g : ℕ → ℕ). IsGoodCount (inode_of d j) (names_of w d j) (g j) (children_of v e j)) (sym all_further)
      (subst (λ (g : ℕ → ℕ). IsGoodCount (inode_of d j) (names_of w d j) (further_names_of w d j) (g j)) (sym all_children)
      (counts_d j was.0))))

  -- ---- the tree

  node_like : (i : ℕ) → node_of v e i ≡ node_of w d i
  node_like i =
      pick (is_node d i && is_live (inode_of d i)) (λ t. (is_node d i && is_live (inode_of d i)) ≡ t → node_of v e i ≡ node_of w d i)
      (λ _ yes.
      let was = both (is_node d i) (is_live (inode_of d i)) yes in
      let is : is_node e i ≡ true = like.node i ∙ yes in
      let count = like.nlink i is in
      node_some v e i is (ap is_positive count ∙ was.1)
      ∙ ap (λ (k : NodeKind). Some (a_node k (inode_of e i))) (like.shown i is)
      ∙ ap (λ n. Some (record { count = count_of n; kind = kind_of w d (inode_of d i) })) count
      ∙ sym (node_some w d i was.0 was.1))
      (λ _ gone.
      node_none v e i (ap (λ (t : Bool). t && is_live (inode_of e i)) (like.node i ∙ gone))
      ∙ sym (node_none w d i gone))
      refl

  nodes_like : (n : ℕ) → first_nodes v e n ≡ first_nodes w d n
  unfolding first_nodes
  nodes_like zero = refl
  nodes_like (suc n) = ap (λ (l : List (Option Node)). l ++ node_of v e n ∷ []) (nodes_like n) ∙ ap (λ (o : Option Node). first_nodes w d n ++ o ∷ []) (node_like n)

  pub tree_like : tree_in v e ≡ tree_in w d
  tree_like =
      let nodes : first_nodes v e (sizes_of e).ninodes ≡ first_nodes w d (sizes_of d).ninodes = ap (first_nodes v e) like.ninodes ∙ nodes_like (sizes_of d).ninodes in
      ap at_rest nodes
