-- How much the new nodes have.
use Rattle.std.proofs.Common.{◌≡◌, ◌↔◌, ◌∙◌, IsTrue, sym, refl, ap, subst, arith, Bool, true, false, ◌&&◌, ℕ, zero, suc, ◌+◌, ◌*◌, ◌/◌, ◌≤◌, List, [], ◌∷◌, length, map, length-append, Option, Some, None}
use Rattle.std.proofs.lemmas.List.{length-map, length-replicate, length-take}
use Rattle.std.proofs.lemmas.List.Elements.{All-append, All-cons, All-nil}
use Rattle.std.specs.Prelude.{All}
use Rattle.fs_layout.specs.Widths.{block_len}
use Rattle.image_versions.specs.Shared.{largest_size}
use Rattle.image_versions.specs.declared.version.Version.{Version}
use Rattle.image_versions.proofs.Places.{most_fit}
use Rattle.fs_layout.proofs.Entries.{name_parts}
use Rattle.fs_layout.proofs.Numbers.{length-u16_bytes}
use Rattle.image_tree.specs.Inodes.{first_slots, front_blocks}
use Rattle.image_tree.proofs.Nodes.{both, directory_from, node_is}
use Rattle.mkfs.proofs.Pieces.{length-records}
use Rattle.migration.specs.Vocabulary.{Dinode, Dirent, Free, Used, IsWellFormed, data_start, dirent_len_of, inode_of, is_directory, is_live, is_node, last, most_disk_blocks, most_slots_of, sizes_of, slots_of}
use Rattle.migration.specs.Nodes.{Node, node_of, spell_slot, spell_slots}
use Rattle.migration.specs.Image.{used_by}
use Rattle.migration.specs.Kept.{content_as, new_node, new_nodes, nodes_upto}
use Rattle.migration.specs.Parts.{CanSpell, HaveContents}
use Rattle.migration.specs.Migrated.{IsTaken}
use Rattle.migration.specs.declared.node.NewNode.{NewNode}
use Rattle.migration.specs.declared.taken.Taken.{Taken}
use Rattle.migration.specs.Refusals.{HasGoodDirectories, IsLater}
use Rattle.migration.proofs.Spelled.{spells_all}

-- ---- directories

slot_width : (v : Version) (slot : Option Dirent) → CanSpell v slot → length (spell_slot v slot) ≡ dirent_len_of v
slot_width v None h = length-replicate (dirent_len_of v) 0
slot_width v (Some Free) h = length-replicate (dirent_len_of v) 0
slot_width v (Some (Used number name)) h =
    let n = name_parts v name h.1 in
    simp (length-append, length-u16_bytes, length-replicate) (omega (arith, n.high))

slots_width : (v : Version) (slots : List (Option Dirent)) → All (CanSpell v) slots → length (spell_slots v slots) ≡ dirent_len_of v * length slots
slots_width v slots h = length-records (spell_slot v) (dirent_len_of v) slots (λ i d l. slot_width v _ (h i d l))

pub slot_count : (w : Version) (disk : List (List ℕ)) (d : Dinode) (n : ℕ) → length (first_slots w disk d n) ≡ n
unfolding first_slots
slot_count w disk d zero = refl
slot_count w disk d (suc n) = length-append (first_slots w disk d n) _ ∙ (let k = slot_count w disk d n in omega arith)

small_directory : (w v : Version) (disk : List (List ℕ)) (d : Dinode) → IsLater w v → d.size / dirent_len_of w ≤ most_slots_of v
    → length (spell_slots v (slots_of w disk d)) ≤ largest_size
small_directory w v disk d later few =
    let n : ℕ = d.size / dirent_len_of w in
    let long : length (spell_slots v (slots_of w disk d)) ≡ dirent_len_of v * n =
    slots_width v (slots_of w disk d) (spells_all w v disk d later) ∙ ap (λ (k : ℕ). dirent_len_of v * k) (slot_count w disk d n) in
    let fits = most_fit v n few in
    omega arith

-- ---- each node

small_content : (w v : Version) (disk : List (List ℕ)) (d : Dinode) (is : Bool) → is_directory d ≡ is → IsLater w v → d.size ≤ largest_size
    → (is_directory d ≡ true → d.size / dirent_len_of w ≤ most_slots_of v) → length (content_as w v disk d) ≤ largest_size
small_content w v disk d true e later small few = rw e (small_directory w v disk d later (few e))
small_content w v disk d false e later small few = rw e (omega (arith, small, length-take d.size (front_blocks disk d ((d.size + 1023) / block_len))))

small_node : (w v : Version) (disk : List (List ℕ)) (i : ℕ) (is : Bool) → (is_node disk i && is_live (inode_of disk i)) ≡ is → IsWellFormed w disk → IsLater w v
    → HasGoodDirectories w v disk → length (new_node w v disk i).content ≤ largest_size
unfolding new_node
small_node w v disk i false e well later few = rw e (omega arith)
small_node w v disk i true e well later few =
    let parts = both (is_node disk i) (is_live (inode_of disk i)) e in
    let node = node_is disk i parts.0 in
    let d : Dinode = inode_of disk i in
    let small : d.size ≤ largest_size = (well.0.0.0.1 i parts.0).fits.limit in
    rw e
    (small_content w v disk d (is_directory d) refl later small
    (λ directory. few i (directory_from disk i (record { low = node.low; bound = node.bound; directory = directory; live = parts.1 }))))

-- ---- all nodes

small_upto : (w v : Version) (disk : List (List ℕ)) (n : ℕ) → IsWellFormed w disk → IsLater w v → HasGoodDirectories w v disk
    → All (λ (node : Node). length node.content ≤ largest_size) (nodes_upto w v disk n)
unfolding nodes_upto
small_upto w v disk zero well later few = All-nil (λ (node : Node). length node.content ≤ largest_size)
small_upto w v disk (suc n) well later few =
    let Small : Node → Type 0 = λ node. length node.content ≤ largest_size in
    All-append Small (nodes_upto w v disk n) (new_node w v disk (suc n) ∷ []) (small_upto w v disk n well later few)
    (All-cons Small (new_node w v disk (suc n)) [] (small_node w v disk (suc n) _ refl well later few) (All-nil Small))

pub node_count : (w v : Version) (disk : List (List ℕ)) (n : ℕ) → length (nodes_upto w v disk n) ≡ n
unfolding nodes_upto
node_count w v disk zero = refl
node_count w v disk (suc n) = length-append (nodes_upto w v disk n) _ ∙ (let k = node_count w v disk n in omega arith)

pub count_nodes : (w v : Version) (disk : List (List ℕ)) → IsWellFormed w disk → 1 + length (new_nodes w v disk) ≡ (sizes_of disk).ninodes
count_nodes w v disk well =
    let some : 2 ≤ (sizes_of disk).ninodes = well.0.0.0.0.0.0.0.0.0.0.0.1.1.few_inodes in
    let count : length (new_nodes w v disk) ≡ last disk = node_count w v disk (last disk) in
    omega arith

pub have_contents : (w v : Version) (disk : List (List ℕ)) → IsWellFormed w disk → IsLater w v → HasGoodDirectories w v disk → HaveContents (new_nodes w v disk)
have_contents w v disk well later few =
    let many : (sizes_of disk).ninodes ≤ 65535 = well.0.0.0.0.0.0.0.0.0.0.0.1.1.many_inodes in
    let count = count_nodes w v disk well in
    record { few = omega arith; each = small_upto w v disk (last disk) well later few }

-- ---- what was taken

pub contents_ready : (w own v : Version) (disk one two : List (List ℕ)) (shown nodes : List NewNode) (later good : Bool) → own ≡ w → one ≡ disk → two ≡ one
    → IsWellFormed w disk → (IsTrue later ↔ IsLater w v) → later ≡ true
    → (IsTrue good ↔ HasGoodDirectories own v one) → good ≡ true → shown ≡ nodes → map node_of nodes ≡ new_nodes own v two
    → HaveContents (map node_of shown)
contents_ready w own v disk one two shown nodes later good l e1 e2 well says is tells so s n =
    let all : map node_of shown ≡ new_nodes w v disk =
    ap (map node_of) s ∙ n ∙ ap (λ (x : Version). new_nodes x v two) l ∙ ap (new_nodes w v) (e2 ∙ e1) in
    let few : HasGoodDirectories w v disk =
    subst (λ (x : Version). HasGoodDirectories x v disk) l (subst (HasGoodDirectories own v) e1 (tells.0 so)) in
    subst HaveContents (sym all) (have_contents w v disk well (says.0 is) few)

-- so an image of `size` blocks has room for it
pub record IsFit (size : ℕ) (taken : Taken) : Type 0 where
  pub contents : HaveContents (map node_of taken.nodes.items)
  pub few : size ≤ most_disk_blocks
  pub count : 1 + length taken.nodes.items ≡ taken.ninodes
  pub room : used_by (data_start taken.ninodes) (map node_of taken.nodes.items) ≤ size

pub is_fit : (w v : Version) (size : ℕ) (disk : List (List ℕ)) (taken : Taken) → IsTaken w v size disk taken → IsFit size taken
is_fit w v size disk taken t =
    let up = t.can.0.0.0 in
    let count : 1 + length taken.nodes.items ≡ taken.ninodes =
    (let a = length-map taken.nodes.items node_of in let b = ap (λ (ns : List Node). length ns) t.nodes in let k = count_nodes w v disk up.well_formed in let n = t.ninodes in omega arith) in
    record {
      contents = subst HaveContents (sym t.nodes) (have_contents w v disk up.well_formed up.later t.can.0.1);
      few = t.can.0.0.1.few;
      count = count;
      room = rw (t.ninodes, t.nodes) t.can.1;
    }

-- as they are shown, one by one
pub shown_fit : (size : ℕ) (taken : Taken) (shown : List NewNode) → IsFit size taken → shown ≡ taken.nodes.items → HaveContents (map node_of shown) × (1 + length shown ≡ taken.ninodes)
shown_fit size taken shown fit e = (subst (λ (nodes : List NewNode). HaveContents (map node_of nodes)) (sym e) fit.contents, ap (λ (nodes : List NewNode). 1 + length nodes) e ∙ fit.count)
