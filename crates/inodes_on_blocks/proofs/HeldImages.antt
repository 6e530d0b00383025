-- A disk that holds the nodes of a well-formed running tree is an image of it.
use Rattle.inodes_on_blocks.proofs.Vocabulary.{◌≡◌, ℕ, inl, inr, refl, sym, ◌∙◌, ap, subst, List, Option, sizes_of, Node, Tree, tree_of, IsWellFormed, UpToSlots, node_of, tree_in, folder, links_of, folders_of, links_in, raises, Folders, IsForest, either, everywhere, Nodes, Holds, AreNodesOf, live_part, IsImageOf}
use Rattle.plain_tree.specs.Tree.{is_live}
use Rattle.plain_tree.specs.Fresh.{at_rest}
use Rattle.tree_laws.specs.WellFormed as trees
use Rattle.inodes_on_blocks.proofs.Nodes.{nodes_at, ninodes_are}
use Rattle.inodes_on_blocks.proofs.Links.{folders_in}
use Rattle.inodes_on_blocks.proofs.Forests.{links_here}
use Rattle.inodes_on_blocks.proofs.Trees.{no_raises, tree_well}
use Rattle.inodes_on_blocks.proofs.HeldParts.{holds_records, holds_contents, have_room, own_blocks}
use Rattle.inodes_on_blocks.proofs.Held.{node_same, live_whole, live_none, live_folder, live_links, nodes_listed}
use Rattle.inodes_on_blocks.proofs.HeldTree.{good_slots, one_tree}
use Rattle.inodes_on_blocks.proofs.HeldInodes.{good_types, has_root, good_sizes, good_counts, are_spelled}
use Rattle.inodes_on_blocks.proofs.HeldBlocks.{good_numbers, names_once, has_marks}
use Rattle.inodes_on_blocks.proofs.HeldNamed.{named_part, image_at_rest}

live_again : (o : Option Node) → live_part (live_part o) ≡ live_part o
live_again o = elim (either (is_live o)) [
  | inl y ↦ ap (λ (v : Option Node). live_part v) (live_whole o y)
  | inr y ↦ ap (λ (v : Option Node). live_part v) (live_none o y) ∙ sym (live_none o y)
]

module _ (disk : List (List ℕ)) (nodes : Nodes) (owner : ℕ → ℕ) (t : Tree) (h : Holds disk nodes owner) (well : trees.IsWellFormed t) (these : AreNodesOf t (sizes_of disk).ninodes nodes) where
  node_is : (n : ℕ) → node_of disk n ≡ live_part (t.nodes n)
  node_is n = node_same disk nodes (holds_records disk nodes owner h) (holds_contents disk nodes owner h) n ∙ sym (these.live n)

  folders_are : folders_of t.nodes ≡ folders_in disk
  folders_are = λ i n. (sym (live_folder (t.nodes n)) ∙ ap (λ (o : Option Node). folder o) (sym (node_is n))) i

  links_are : links_in t.nodes ≡ links_here disk
  links_are = everywhere (links_in t.nodes) (links_here disk) (λ n. sym (live_links (t.nodes n)) ∙ ap (λ (o : Option Node). links_of o) (sym (node_is n)))

  forest_here : IsForest (folders_in disk) (links_here disk) (λ n. 0) (sizes_of disk).ninodes well.depth
  forest_here =
      subst (λ (F : Folders). IsForest F (links_here disk) (λ n. 0) (sizes_of disk).ninodes well.depth) folders_are
      (subst (λ (C : ℕ → ℕ). IsForest (folders_of t.nodes) C (λ n. 0) (sizes_of disk).ninodes well.depth) links_are
      (subst (λ (R : ℕ → ℕ). IsForest (folders_of t.nodes) (links_in t.nodes) R (sizes_of disk).ninodes well.depth) (everywhere (raises t.holds) (λ n. 0) these.unraised)
      (subst (λ (N : ℕ). IsForest (folders_of t.nodes) (links_in t.nodes) (raises t.holds) N well.depth) these.numbers well.forest)))

  well_formed : IsWellFormed disk
  well_formed =
      let spelled = are_spelled disk nodes (holds_records disk nodes owner h) (holds_contents disk nodes owner h) in
      let types = good_types disk nodes (holds_records disk nodes owner h) in
      let root = has_root disk nodes (holds_records disk nodes owner h) (holds_contents disk nodes owner h) well.depth forest_here in
      let numbers = good_numbers disk owner (own_blocks disk nodes owner h) in
      let once = names_once disk owner (own_blocks disk nodes owner h) in
      let marks = has_marks disk owner (own_blocks disk nodes owner h) h.bits in
      let sizes = good_sizes disk nodes (holds_records disk nodes owner h) (holds_contents disk nodes owner h) well.depth forest_here (have_room disk nodes owner h) in
      let slots : UpToSlots disk = (((((((h.front, types), root), numbers), once), marks), sizes), good_slots disk well.depth forest_here spelled) in
      ((slots, one_tree disk well.depth forest_here spelled), good_counts disk nodes (holds_records disk nodes owner h) (holds_contents disk nodes owner h) well.depth forest_here)

  pub image_of : IsImageOf disk nodes t
  image_of =
      let u : Tree = tree_of (tree_in disk) in
      let same : (n : ℕ) → u.nodes n ≡ live_part (t.nodes n) = (λ n. nodes_at disk n ∙ node_is n) in
      record {
        well_formed = well_formed;
        tree = ap at_rest (nodes_listed disk nodes (holds_records disk nodes owner h) (holds_contents disk nodes owner h) (sizes_of disk).ninodes);
        named = named_part t u well these.unraised (ninodes_are disk ∙ sym these.numbers) same (image_at_rest disk);
        own =
            named_part u u (tree_well disk well_formed) (no_raises disk) refl
            (λ n. same n ∙ sym (live_again (t.nodes n)) ∙ ap (λ (v : Option Node). live_part v) (sym (same n)))
            (image_at_rest disk);
      }
