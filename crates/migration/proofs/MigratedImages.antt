-- A migrated image is well formed, and holds the tree of the old one.
use Rattle.std.proofs.Common.{◌≡◌, ◌∙◌, sym, ap, subst, arith, ℕ, ◌≤◌, List, length, map}
use Rattle.image_versions.specs.declared.version.Version.{Version}
use Rattle.fs_layout.specs.declared.superblock.Super.{Super}
use Rattle.image_tree.specs.Damage.{UpToLog, UpToMarks, UpToRoot, UpToSlots, UpToSuper}
use Rattle.migration.specs.Vocabulary.{HasBytes, HasWholeBlocks, IsWellFormed, sizes_of}
use Rattle.migration.specs.Image.{image_with}
use Rattle.migration.specs.Kept.{migrated, new_nodes}
use Rattle.migration.specs.Laws.{MigratedImagesHoldTheTree}
use Rattle.migration.specs.Migrated.{HoldsTheTree, IsMigrated, IsTaken}
use Rattle.migration.specs.Nodes.{Node, node_of}
use Rattle.migration.specs.declared.node.NewNode.{NewNode}
use Rattle.migration.specs.declared.taken.Taken.{Taken}
use Rattle.migration.proofs.LikeImages.{like_counts, like_slots, like_tree, tree_like}
use Rattle.migration.proofs.NewBlocks.{length-disk, new_disk, sizes-new}
use Rattle.migration.proofs.NewImages.{is_like, laid, root_new, sizes_good, types_new}
use Rattle.migration.proofs.NewNumbers.{good-numbers, log-new, marks-new, once-new, super-new}

pub migrated_images_hold_the_tree : MigratedImagesHoldTheTree
migrated_images_hold_the_tree w v size disk whole bytes can =
    let ninodes : ℕ = (sizes_of disk).ninodes in
    let nodes : List Node = new_nodes w v disk in
    let new : List (List ℕ) = new_disk v size ninodes nodes in
    let old : IsWellFormed w disk = can.0.0.0.well_formed in
    let lie = laid w v size disk whole bytes can in
    let like = is_like w v size disk whole bytes can in
    let long : length new ≡ size = length-disk v size ninodes nodes lie in
    let own : (sizes_of new).size ≡ size = ap (λ (s : Super). s.size) (sizes-new v size ninodes nodes lie) in
    let short : 2 ≤ length new = omega (arith, long, lie.room) in
    let super : UpToSuper v new = (short, super-new v size ninodes nodes lie) in
    let log : UpToLog v new = ((super, omega (arith, long, own)), log-new v size ninodes nodes lie) in
    let root : UpToRoot v new = ((log, types_new w v size disk whole bytes can), root_new w v size disk whole bytes can) in
    let marks : UpToMarks v new = (((root, good-numbers v size ninodes nodes lie), once-new v size ninodes nodes lie), marks-new v size ninodes nodes lie) in
    let slots : UpToSlots v new = ((marks, sizes_good w v size disk whole bytes can), like_slots w v disk new like old.0.0.1 old.0.1 old.1) in
    record {
      well_formed = ((slots, like_tree w v disk new like old.0.0.1 old.0.1 old.1), like_counts w v disk new like old.0.0.1 old.0.1 old.1);
      tree = tree_like w v disk new like old.0.0.1 old.0.1 old.1;
    }

-- so is what was made of the nodes that were taken
pub is_migrated : (w v : Version) (size : ℕ) (disk now : List (List ℕ)) (taken : Taken) (shown : List NewNode) (bytes made : List ℕ) → IsTaken w v size disk taken
    → HasWholeBlocks disk → now ≡ disk → HasBytes now → shown ≡ taken.nodes.items → bytes ≡ image_with v size taken.ninodes (map node_of shown) → made ≡ bytes
    → IsMigrated w v size disk made
is_migrated w v size disk now taken shown bytes made t whole same are s e m =
    let is : made ≡ migrated w v size disk =
    m ∙ e
    ∙ ap (λ (nodes : List NewNode). image_with v size taken.ninodes (map node_of nodes)) s
    ∙ ap (λ (n : ℕ). image_with v size n (map node_of taken.nodes.items)) t.ninodes
    ∙ ap (λ (nodes : List Node). image_with v size (sizes_of disk).ninodes nodes) t.nodes in
    record {
      can = t.can;
      bytes_are = is;
      holds = subst (HoldsTheTree w v disk) (sym is) (migrated_images_hold_the_tree w v size disk whole (subst HasBytes same are) t.can);
    }
