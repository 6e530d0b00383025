-- The checks of inodes pass: types, the root, sizes, and counts.
use Rattle.inodes_on_blocks.proofs.Vocabulary.{◌≡◌, ◌≤◌, ℕ, ◌*◌, ◌%◌, true, false, ℤ, pos, negsuc, inl, inr, sym, ◌∙◌, ap, subst, arith, rules, List, length, map, Option, Some, nat_lt, ◌<ℤ◌, false≢true, eqb-true, nat_tests, length-map, Dinode, version_in, sizes_of, Node, NodeKind, Directory, File, Device, inode_of, is_number, is_positive, is_directory, is_live, is_node, is_live_directory, slots_of, IsGoodType, HasGoodTypes, HasRoot, HasGoodSizes, HasGoodCounts, directory_is, directory_from, node_is, links_of, IsForest, either, Nodes, type_in, size_in, IsUnused, IsRecord, HasContent, entry_of, dirent_len_of}
use Rattle.image_versions.proofs.Places.{count_slots, lie_apart}
use Rattle.plain_tree.specs.Tree as plain
use Rattle.inodes_on_blocks.proofs.HeldParts.{HoldsRecords, HoldsContents, HaveRoom}
use Rattle.inodes_on_blocks.proofs.ImageSlots.{Entries, in_tree}
use Rattle.inodes_on_blocks.proofs.Nodes.{directory_node, slots_of_directory}
use Rattle.inodes_on_blocks.proofs.Links.{folders_in}
use Rattle.inodes_on_blocks.proofs.Forests.{links_here}
use Rattle.inodes_on_blocks.proofs.Held.{some_or, inode_at, inode_directory, no_inode, unused_count, node_of_inode, links_same, entries_back}
use Rattle.inodes_on_blocks.proofs.HeldTree.{AreSpelled, root_live, stands, other_names, all_names, directory_links}

-- ---- types

unused_type : (d : Dinode) → IsUnused d → IsGoodType d
unused_type d h = (h.low, h.high, λ ne. let e = h.unnamed ne in rw e (search rules))

good_type : (d : Dinode) (k : NodeKind) (n : ℕ) → d.kind ≡ pos (type_in k) → d.nlink ≡ pos n → IsGoodType d
good_type d (Directory slots) n e c = rw (e, c) (search rules, search rules, λ _. search rules)
good_type d (File bytes) n e c = rw (e, c) (search rules, search rules, λ _. search rules)
good_type d (Device major minor size) n e c = rw (e, c) (search rules, search rules, λ _. search rules)

pub good_types : (disk : List (List ℕ)) (nodes : Nodes) → HoldsRecords disk nodes → HasGoodTypes disk
good_types disk nodes records i low bound = elim (some_or (nodes i)) [
  | inl none ↦ unused_type (inode_of disk i) (subst (IsRecord (version_in disk) (inode_of disk i)) none (records.record_of i low bound))
  | inr some ↦ let d = inode_at disk nodes records i some.0 some.1 in good_type (inode_of disk i) some.0.kind some.0.count d.kind d.count
]

-- ---- the root

one_kind : (z : ℤ) → is_number 1 z ≡ true → z ≡ pos 1
one_kind (pos n) h = ap pos (eqb-true n 1 h)
one_kind (negsuc n) h = absurd (false≢true h)

above_zero : (z : ℤ) → is_positive z ≡ true → pos 0 <ℤ z
above_zero (pos n) h = let low : nat_lt 0 n ≡ true = h in grind (arith, nat_tests)
above_zero (negsuc n) h = absurd (false≢true h)

-- ---- slots

spelled_as : (disk : List (List ℕ)) (d : Dinode) (k : NodeKind) → plain.is_directory k ≡ true → HasContent disk d k → slots_of disk d ≡ map entry_of (in_tree (slots_of disk d))
spelled_as disk d (Directory slots) h content = content ∙ ap (map entry_of) (sym (ap (λ (es : Entries). in_tree es) content ∙ entries_back slots))
spelled_as disk d (File bytes) h content = absurd (false≢true h)
spelled_as disk d (Device major minor size) h content = absurd (false≢true h)

slots_sized : (disk : List (List ℕ)) (d : Dinode) (k : NodeKind) → plain.is_directory k ≡ true → HasContent disk d k → size_in (version_in disk) k ≡ dirent_len_of (version_in disk) * length (slots_of disk d)
slots_sized disk d (Directory slots) h content = ap (λ (n : ℕ). dirent_len_of (version_in disk) * n) (sym (ap length content ∙ length-map slots entry_of))
slots_sized disk d (File bytes) h content = absurd (false≢true h)
slots_sized disk d (Device major minor size) h content = absurd (false≢true h)

pub are_spelled : (disk : List (List ℕ)) (nodes : Nodes) → HoldsRecords disk nodes → HoldsContents disk nodes → AreSpelled disk
are_spelled disk nodes records contents i live =
    let is = directory_is disk i live in
    let some = node_of_inode disk nodes records i (directory_node disk i live) is.live in
    let here = slots_of_directory disk i live in
    let directory : plain.is_directory some.0.kind ≡ true = sym (inode_directory (version_in disk) (inode_of disk i) some.0 (inode_at disk nodes records i some.0 some.1)) ∙ is.directory in
    here ∙ spelled_as disk (inode_of disk i) some.0.kind directory (contents.content i some.0 some.1) ∙ ap (λ (es : Entries). map entry_of (in_tree es)) (sym here)

module _ (disk : List (List ℕ)) (nodes : Nodes) (records : HoldsRecords disk nodes) (contents : HoldsContents disk nodes)
    (D : ℕ → ℕ) (f : IsForest (folders_in disk) (links_here disk) (λ n. 0) (sizes_of disk).ninodes D) where
  spelled : AreSpelled disk
  spelled = are_spelled disk nodes records contents

  pub has_root : HasRoot disk
  has_root =
      let is = directory_is disk 1 (root_live disk D f spelled) in
      (one_kind (inode_of disk 1).kind is.directory, above_zero (inode_of disk 1).nlink is.live)

  -- ---- sizes

  slots_fit : (i : ℕ) → is_live_directory disk i ≡ true
      → (2 * dirent_len_of (version_in disk) ≤ (inode_of disk i).size) × ((inode_of disk i).size % dirent_len_of (version_in disk) ≡ 0)
  slots_fit i here =
      let at = directory_is disk i here in
      let some = node_of_inode disk nodes records i (directory_node disk i here) at.live in
      let v = some.0 in
      let d = inode_at disk nodes records i v some.1 in
      let many : (inode_of disk i).size ≡ dirent_len_of (version_in disk) * length (slots_of disk (inode_of disk i)) =
      d.size ∙ slots_sized disk (inode_of disk i) v.kind (sym (inode_directory (version_in disk) (inode_of disk i) v d) ∙ at.directory) (contents.content i v some.1) in
      let two = ap length (sym (slots_of_directory disk i here) ∙ stands disk D f spelled i here) in
      let low = lie_apart (version_in disk) 1 (length (slots_of disk (inode_of disk i))) (omega (arith, two)) in
      (omega (arith, many, low), ap (λ (n : ℕ). n % dirent_len_of (version_in disk)) many ∙ (count_slots (version_in disk) (length (slots_of disk (inode_of disk i)))).1)

  pub good_sizes : HaveRoom disk → HasGoodSizes disk
  good_sizes room i node = record {
    fits = record {
      limit = (room.room i node).limit;
      slots = λ directory live.
          let at = node_is disk i node in
          slots_fit i (directory_from disk i (record { low = at.low; bound = at.bound; directory = directory; live = live }));
    };
    named = (room.room i node).there;
  }

  -- ---- counts

  links_are : (i : ℕ) (v : Node) → nodes i ≡ Some v → links_here disk i ≡ v.count
  links_are i v is = links_same disk nodes records contents i ∙ ap (λ (o : Option Node). links_of o) is

  no_directory : (i : ℕ) → is_directory (inode_of disk i) ≡ false → is_live_directory disk i ≡ false
  no_directory i not = elim (either (is_live_directory disk i)) [
    | inr y ↦ y
    | inl y ↦ absurd (false≢true (sym not ∙ (directory_is disk i y).directory))
  ]

  not_live : (i : ℕ) → is_live (inode_of disk i) ≡ false → is_live_directory disk i ≡ false
  not_live i not = elim (either (is_live_directory disk i)) [
    | inr y ↦ y
    | inl y ↦ absurd (false≢true (sym not ∙ (directory_is disk i y).live))
  ]

  -- the count of an inode in use
  count_is : (i : ℕ) → is_node disk i ≡ true → (inode_of disk i).nlink ≡ pos (links_here disk i)
  count_is i node = elim (some_or (nodes i)) [
    | inr some ↦ (inode_at disk nodes records i some.0 some.1).count ∙ ap pos (sym (links_are i some.0 some.1))
    | inl none ↦ unused_count disk nodes records i node none ∙ ap pos (sym (ap (λ (o : Option Node). links_of o) (no_inode disk nodes records i none)))
  ]

  -- if the count isn't above 0 there are no links
  no_links : (i : ℕ) → is_node disk i ≡ true → is_live (inode_of disk i) ≡ false → links_here disk i ≡ 0
  no_links i node dead =
      let none : nat_lt 0 (links_here disk i) ≡ false = sym (ap is_positive (count_is i node)) ∙ dead in
      grind (arith, nat_tests)

  pub good_counts : HasGoodCounts disk
  good_counts i node = record {
    file = λ not. count_is i node ∙ ap pos (all_names disk D f spelled i (no_directory i not));
    directory = λ directory live.
        let at = node_is disk i node in
        let here : is_live_directory disk i ≡ true = directory_from disk i (record { low = at.low; bound = at.bound; directory = directory; live = live }) in
        count_is i node ∙ ap pos (directory_links disk D f spelled i here);
    dead = λ directory dead. sym (other_names disk D f spelled i (not_live i dead)) ∙ no_links i node dead;
  }
