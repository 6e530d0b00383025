-- A well-formed image holds a well-formed tree.
use Rattle.inodes_on_blocks.proofs.Vocabulary.{◌≡◌, ℕ, ◌<◌, true, inl, inr, refl, sym, ◌∙◌, ap, subst, arith, List, replicate, get_or, Option, Some, None, get_or-replicate, sizes_of, Node, Hart, Hold, hart_count, descriptor_count, root, Tree, tree_of, resting, fresh_hart, is_node, is_live_directory, IsWellFormed, node_of, tree_in, node_is, folders_of, links_in, raised_at, raises, IsForest, IsThere, either, everywhere, sum_none}
use Rattle.tree_laws.specs.WellFormed as trees
use Rattle.inodes_on_blocks.proofs.Nodes.{no_node, nodes_at, ninodes_are, directory_there}
use Rattle.inodes_on_blocks.proofs.Depths.{depth_in}
use Rattle.inodes_on_blocks.proofs.Forests.{root_live, forest}

-- ---- nothing is open, and all harts are in the root

hart_rests : (h : ℕ) → h < hart_count → get_or (replicate hart_count fresh_hart) h resting ≡ fresh_hart
hart_rests h l = get_or-replicate hart_count h fresh_hart resting l

no_hold : (disk : List (List ℕ)) (h : ℕ) → h < hart_count → (tree_of (tree_in disk)).holds h ≡ None
no_hold disk h l = ap (λ (x : Hart). x.hold) (hart_rests h l)

no_descriptor : (disk : List (List ℕ)) (h i : ℕ) → h < hart_count → i < descriptor_count → (tree_of (tree_in disk)).fds h i ≡ None
no_descriptor disk h i l m = ap (λ (x : Hart). get_or x.descriptors i None) (hart_rests h l) ∙ get_or-replicate descriptor_count i None None m

in_root : (disk : List (List ℕ)) (h : ℕ) → h < hart_count → (tree_of (tree_in disk)).cwd h ≡ root
in_root disk h l = ap (λ (x : Hart). x.directory) (hart_rests h l)

pub no_raises : (disk : List (List ℕ)) (n : ℕ) → raises (tree_of (tree_in disk)).holds n ≡ 0
unfolding raises
no_raises disk n = sum_none hart_count _ (λ h l. ap (λ (o : Option Hold). raised_at o n) (no_hold disk h l))

-- ---- the tree

pub nodes_are : (disk : List (List ℕ)) → (tree_of (tree_in disk)).nodes ≡ node_of disk
nodes_are disk = everywhere (tree_of (tree_in disk)).nodes (node_of disk) (nodes_at disk)

pub there_is_node : (disk : List (List ℕ)) (i : ℕ) (v : Node) → node_of disk i ≡ Some v → is_node disk i ≡ true
there_is_node disk i v is = elim (either (is_node disk i)) [
  | inl y ↦ y
  | inr y ↦ absurd (let none = no_node disk i y in cc (none, is))
]

pub tree_well : (disk : List (List ℕ)) → IsWellFormed disk → trees.IsWellFormed (tree_of (tree_in disk))
tree_well disk h =
    let t : Tree = tree_of (tree_in disk) in
    let one = h.0.1 in
    let slots = h.0.0.1 in
    let has_root = h.0.0.0.0.0.0.0.1 in
    let many = h.0.0.0.0.0.0.0.0.0.0.0.1.1.few_inodes in
    let D : ℕ → ℕ = depth_in disk slots one in
    let all = ninodes_are disk in
    let live : is_live_directory disk root ≡ true = root_live disk many has_root slots one h.1 in
    record {
      range = λ n v is.
          let node = node_is disk n (there_is_node disk n v (sym (nodes_at disk n) ∙ is)) in
          (node.low, omega (arith, node.bound, all));
      depth = D;
      forest =
          subst (λ (N : ℕ). IsForest (folders_of t.nodes) (links_in t.nodes) (raises t.holds) N D) (sym all)
          (subst (λ (held : ℕ → ℕ). IsForest (folders_of t.nodes) (links_in t.nodes) held (sizes_of disk).ninodes D) (sym (everywhere (raises t.holds) (λ n. 0) (no_raises disk)))
          (subst (λ (nodes : ℕ → Option Node). IsForest (folders_of nodes) (links_in nodes) (λ n. 0) (sizes_of disk).ninodes D) (sym (nodes_are disk))
          (forest disk many has_root slots one h.1)));
      holds = λ g o l is. absurd (let none = no_hold disk g l in cc (none, is));
      descriptors = λ g i id l m is. absurd (let none = no_descriptor disk g i l m in cc (none, is));
      directories = λ g l.
          subst (λ (n : ℕ). IsThere t.nodes n true) (sym (in_root disk g l))
          (record { node = _; is = nodes_at disk root ∙ directory_there disk root live; inode_type = refl });
    }
