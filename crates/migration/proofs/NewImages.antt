-- A migrated image has the live nodes of the old one, each with its number.
use Rattle.std.proofs.Common.{◌≡◌, ◌≢◌, ◌∙◌, sym, refl, ap, subst, arith, true, false, ◌&&◌, ℕ, ℤ, pos, ◌+◌, ◌*◌, ◌%◌, ◌<◌, ◌≤◌, ◌<ℤ◌, ◌≤ℤ◌, List, length, get_or, map, Option, All}
use Rattle.std.proofs.lemmas.Bool.{false_from_ne_true, false≢true}
use Rattle.fs_layout.specs.Widths.{block_len}
use Rattle.image_versions.specs.Shared.{largest_size}
use Rattle.image_versions.specs.declared.version.Version.{Version}
use Rattle.image_versions.proofs.Places.{count_slots, lie_apart}
use Rattle.fs_layout.specs.declared.superblock.Super.{Super}
use Rattle.plain_tree.specs.declared.node.NodeKind.TheVariants.{Device, Directory, File}
use Rattle.image_tree.specs.Checks.{HasGoodCounts, HasGoodSizes, HasGoodSlots, HasGoodTypes, HasRoot, IsGoodType, IsOneTree}
use Rattle.image_tree.specs.Inodes.{block_number, is_number, is_positive, numbers_of}
use Rattle.image_tree.specs.Links.{slots_in}
use Rattle.image_tree.specs.Trees.{is_file, kind_of, slot_of}
use Rattle.image_tree.proofs.Contents.{pick}
use Rattle.image_tree.proofs.Nodes.{both, directory_from, directory_is, node_from, node_is}
use Rattle.image_tree.proofs.SlotLemmas.{directory_kind}
use Rattle.image_tree.proofs.Unnamed.{no_root}
use Rattle.migration.specs.Vocabulary.{Dinode, Dirent, HasBytes, HasWholeBlocks, IsWellFormed, content_of, data_start, dirent_len_of, inode_of, is_directory, is_live, is_live_directory, is_node, last, sizes_of, slots_of}
use Rattle.migration.specs.Nodes.{Node, free_node, spell_slots}
use Rattle.migration.specs.Image.{inode_for}
use Rattle.migration.specs.Kept.{content_as, new_node, new_nodes, node_with}
use Rattle.migration.specs.Refusals.{CanBeMigrated, IsLater}
use Rattle.migration.proofs.Contents.{count_nodes, have_contents, node_count}
use Rattle.migration.proofs.LikeImages.{IsLike}
use Rattle.migration.proofs.NewBlocks.{new_disk, sizes-new}
use Rattle.migration.proofs.NewContents.{HasContent, IsRead, content-read, length-spelled, slots-read}
use Rattle.migration.proofs.NewInodes.{inode-new, place_of}
use Rattle.migration.proofs.NewNumbers.{content-new, each-inode, named-new}
use Rattle.migration.proofs.OldNodes.{content_long, first_two, in_directory, in_none, is_new, is_none, node_at, node_sound, slots_readable}
use Rattle.migration.proofs.PlainNodes.{IsLaid, IsSound}
use Rattle.migration.proofs.RootBlocks.{root_there}

-- ---- what an inode says of its node

record IsInodeOf (d : Dinode) (node : Node) : Type 0 where
  kind : d.kind ≡ node.kind
  major : d.major ≡ node.major
  minor : d.minor ≡ node.minor
  nlink : d.nlink ≡ node.nlink
  size : d.size ≡ length node.content

says_fields : (first : ℕ) (node : Node) → IsInodeOf (inode_for first node) node
unfolding inode_for
says_fields first node = record { kind = refl; major = refl; minor = refl; nlink = refl; size = refl }

-- inode i is the node's, and its blocks have the node's content
record IsNew (disk : List (List ℕ)) (i : ℕ) (node : Node) : Type 0 where
  says : IsInodeOf (inode_of disk i) node
  content : HasContent disk (inode_of disk i) node.content
  named : (k : ℕ) → block_len * k < length node.content → block_number (numbers_of disk (inode_of disk i)) k ≢ 0

-- ---- kinds

directory_shown : (v : Version) (disk : List (List ℕ)) (d : Dinode) → is_directory d ≡ true → kind_of v disk d ≡ Directory (map slot_of (slots_of v disk d))
unfolding kind_of
directory_shown v disk d is = rw is refl

file_shown : (v : Version) (disk : List (List ℕ)) (d : Dinode) → is_directory d ≡ false → is_file d ≡ true → kind_of v disk d ≡ File (content_of disk d)
unfolding kind_of
file_shown v disk d other is = rw (other, is) refl

device_shown : (v : Version) (disk : List (List ℕ)) (d : Dinode) → is_directory d ≡ false → is_file d ≡ false → kind_of v disk d ≡ Device d.major d.minor d.size
unfolding kind_of
device_shown v disk d other not_file = rw (other, not_file) refl

type_same : (x y : Dinode) → y.kind ≡ x.kind → y.nlink ≡ x.nlink → IsGoodType x → IsGoodType y
type_same x y kind nlink good =
    subst (λ (n : ℤ). (pos 0 ≤ℤ y.kind) × (y.kind ≤ℤ pos 3) × (y.kind ≢ pos 0 → pos 0 ≤ℤ n)) (sym nlink)
    (subst (λ (k : ℤ). (pos 0 ≤ℤ k) × (k ≤ℤ pos 3) × (k ≢ pos 0 → pos 0 ≤ℤ x.nlink)) (sym kind) good)

free_type : (y : Dinode) → y.kind ≡ pos 0 → IsGoodType y
free_type y kind =
    let zero_ : (pos 0 ≤ℤ pos 0) × (pos 0 ≤ℤ pos 3) × (pos 0 ≢ pos 0 → pos 0 ≤ℤ y.nlink) = (omega arith, omega arith, λ n. absurd (n refl)) in
    subst (λ (k : ℤ). (pos 0 ≤ℤ k) × (k ≤ℤ pos 3) × (k ≢ pos 0 → pos 0 ≤ℤ y.nlink)) (sym kind) zero_

content_spelled : (w v : Version) (disk : List (List ℕ)) (d : Dinode) → is_directory d ≡ true → content_as w v disk d ≡ spell_slots v (slots_of w disk d)
content_spelled w v disk d is = rw is refl

content_kept : (w v : Version) (disk : List (List ℕ)) (d : Dinode) → is_directory d ≡ false → content_as w v disk d ≡ content_of disk d
content_kept w v disk d other = rw other refl

-- whole slots, at least two
two_slots : (v : Version) (n : ℕ) → 2 ≤ n → 2 * dirent_len_of v ≤ dirent_len_of v * n
two_slots v n two = at (dirent_len_of v) (dirent_len_of v * n) (lie_apart v 1 n two)
  where
    at : (a b : ℕ) → a * 1 + a ≤ b → 2 * a ≤ b
    at a b h = omega arith

module _ (w v : Version) (size : ℕ) (disk : List (List ℕ)) (whole : HasWholeBlocks disk) (bytes : HasBytes disk) (can : CanBeMigrated w v size disk) where
  abbrev made : List (List ℕ)
  made = new_disk v size (sizes_of disk).ninodes (new_nodes w v disk)

  well : IsWellFormed w disk
  well = can.0.0.0.well_formed

  later : IsLater w v
  later = can.0.0.0.later

  old_slots : HasGoodSlots w disk
  old_slots = well.0.0.1

  old_tree : IsOneTree w disk
  old_tree = well.0.1

  old_counts : HasGoodCounts w disk
  old_counts = well.1

  small_at : (j : ℕ) → j < length (new_nodes w v disk) → length (new_node w v disk (j + 1)).content ≤ largest_size
  small_at j l =
      subst (λ (node : Node). length node.content ≤ largest_size) (node_at w v disk (last disk) j free_node (omega (arith, l, node_count w v disk (last disk))))
      ((have_contents w v disk well later can.0.1).each j free_node l)

  pub laid : IsLaid size (sizes_of disk).ninodes (new_nodes w v disk)
  laid = record {
    few = can.0.0.1.few;
    some = well.0.0.0.0.0.0.0.0.0.0.0.1.1.few_inodes;
    many = well.0.0.0.0.0.0.0.0.0.0.0.1.1.many_inodes;
    count = count_nodes w v disk well;
    room = can.1;
    each = λ j d l.
        subst IsSound (sym (node_at w v disk (last disk) j d (omega (arith, l, node_count w v disk (last disk))))) (node_sound w v disk (j + 1) bytes (small_at j l));
  }

  pub count_same : (sizes_of made).ninodes ≡ (sizes_of disk).ninodes
  count_same = ap (λ (s : Super). s.ninodes) (sizes-new v size (sizes_of disk).ninodes (new_nodes w v disk) laid)

  -- ---- node by node

  new_at : (j : ℕ) → j < length (new_nodes w v disk) → IsNew made (j + 1) (new_node w v disk (j + 1))
  new_at j l =
      let nodes : List Node = new_nodes w v disk in
      let ninodes : ℕ = (sizes_of disk).ninodes in
      let first : ℕ = place_of (data_start ninodes) nodes j in
      let node : Node = get_or nodes j free_node in
      let is : node ≡ new_node w v disk (j + 1) = node_at w v disk (last disk) j free_node (omega (arith, l, node_count w v disk (last disk))) in
      subst (IsNew made (j + 1)) is (record {
        says = subst (λ (d : Dinode). IsInodeOf d node) (sym (inode-new v size ninodes nodes j free_node laid l)) (says_fields first node);
        content = λ k below. content-new v size ninodes nodes laid j k free_node l below;
        named = λ k below. named-new v size ninodes nodes laid j k free_node l below;
      })

  new_is : (i : ℕ) → 1 ≤ i → i < (sizes_of made).ninodes → IsNew made i (new_node w v disk i)
  new_is = each-inode v size (sizes_of disk).ninodes (new_nodes w v disk) laid (λ i. IsNew made i (new_node w v disk i)) new_at

  -- a live node is there, with its new content
  kept : (i : ℕ) → is_node disk i ≡ true → is_live (inode_of disk i) ≡ true → IsNew made i (node_with (inode_of disk i) (content_as w v disk (inode_of disk i)))
  kept i node live =
      let is = node_is disk i node in
      let bound = is.bound in
      subst (IsNew made i) (is_new w v disk i node live) (new_is i is.low (omega (arith, bound, count_same)))

  -- and any other inode is free
  gone : (i : ℕ) → 1 ≤ i → i < (sizes_of made).ninodes → (is_node disk i && is_live (inode_of disk i)) ≡ false → (inode_of made i).kind ≡ pos 0
  gone i low high none = (new_is i low high).says.kind ∙ ap (λ (node : Node). node.kind) (is_none w v disk i none)

  node_same : (i : ℕ) → is_node made i ≡ (is_node disk i && is_live (inode_of disk i))
  node_same i =
      pick (is_node disk i && is_live (inode_of disk i)) (λ t. (is_node disk i && is_live (inode_of disk i)) ≡ t → is_node made i ≡ (is_node disk i && is_live (inode_of disk i)))
      (λ _ yes.
      let was = both (is_node disk i) (is_live (inode_of disk i)) yes in
      let is = node_is disk i was.0 in
      let bound = is.bound in
      node_from made i (record { low = is.low; bound = omega (arith, bound, count_same); used = ap (is_number 0) (kept i was.0 was.1).says.kind ∙ is.used })
      ∙ sym yes)
      (λ _ none.
      false_from_ne_true (is_node made i) (λ t.
      let is = node_is made i t in
      false≢true (sym is.used ∙ ap (is_number 0) (gone i is.low is.bound none)))
      ∙ sym none)
      refl

  -- a node of the new image was a live one
  was_live : (i : ℕ) → is_node made i ≡ true → (is_node disk i ≡ true) × (is_live (inode_of disk i) ≡ true)
  was_live i is = both (is_node disk i) (is_live (inode_of disk i)) (sym (node_same i) ∙ is)

  directory_node : (i : ℕ) → is_live_directory disk i ≡ true → is_node disk i ≡ true
  directory_node i live =
      let is = directory_is disk i live in
      node_from disk i (record { low = is.low; bound = is.bound; used = directory_kind (inode_of disk i).kind is.directory })

  live_same : (i : ℕ) → is_live_directory made i ≡ is_live_directory disk i
  live_same i =
      pick (is_live_directory disk i) (λ t. is_live_directory disk i ≡ t → is_live_directory made i ≡ is_live_directory disk i)
      (λ _ yes.
      let is = directory_is disk i yes in
      let bound = is.bound in
      let new = (kept i (directory_node i yes) is.live).says in
      directory_from made i (record {
        low = is.low;
        bound = omega (arith, bound, count_same);
        directory = ap (is_number 1) new.kind ∙ is.directory;
        live = ap is_positive new.nlink ∙ is.live;
      })
      ∙ sym yes)
      (λ _ none.
      false_from_ne_true (is_live_directory made i) (λ t.
      let is = directory_is made i t in
      let node : is_node made i ≡ true = node_from made i (record { low = is.low; bound = is.bound; used = directory_kind (inode_of made i).kind is.directory }) in
      let was = was_live i node in
      let new = (kept i was.0 was.1).says in
      let old = node_is disk i was.0 in
      false≢true (sym none ∙ directory_from disk i (record { low = old.low; bound = old.bound; directory = sym (ap (is_number 1) new.kind) ∙ is.directory; live = was.1 })))
      ∙ sym none)
      refl

  -- ---- the slots

  -- of a live directory
  read_all : (i : ℕ) → is_live_directory disk i ≡ true → All (IsRead v) (slots_of w disk (inode_of disk i))
  read_all i live = slots_readable w v disk i well later live

  spelled : (i : ℕ) → is_live_directory disk i ≡ true → IsNew made i (node_with (inode_of disk i) (spell_slots v (slots_of w disk (inode_of disk i))))
  spelled i live =
      let is = directory_is disk i live in
      subst (λ (content : List ℕ). IsNew made i (node_with (inode_of disk i) content)) (content_spelled w v disk (inode_of disk i) is.directory) (kept i (directory_node i live) is.live)

  slots_there : (i : ℕ) → is_live_directory disk i ≡ true → slots_of v made (inode_of made i) ≡ slots_of w disk (inode_of disk i)
  slots_there i live =
      let new = spelled i live in
      slots-read v made (inode_of made i) (slots_of w disk (inode_of disk i)) (read_all i live) new.content new.says.size

  slots_same : (i : ℕ) → slots_in v made i ≡ slots_in w disk i
  slots_same i =
      pick (is_live_directory disk i) (λ t. is_live_directory disk i ≡ t → slots_in v made i ≡ slots_in w disk i)
      (λ _ live. in_directory v made i (live_same i ∙ live) ∙ slots_there i live ∙ sym (in_directory w disk i live))
      (λ _ none. in_none v made i (live_same i ∙ none) ∙ sym (in_none w disk i none))
      refl

  -- ---- what the tree has of a node

  bytes_there : (i : ℕ) → is_node disk i ≡ true → is_live (inode_of disk i) ≡ true → is_directory (inode_of disk i) ≡ false → IsNew made i (node_with (inode_of disk i) (content_of disk (inode_of disk i)))
  bytes_there i node live other =
      subst (λ (content : List ℕ). IsNew made i (node_with (inode_of disk i) content)) (content_kept w v disk (inode_of disk i) other) (kept i node live)

  shown_same : (i : ℕ) → is_node made i ≡ true → kind_of v made (inode_of made i) ≡ kind_of w disk (inode_of disk i)
  shown_same i is =
      let was = was_live i is in
      let d : Dinode = inode_of disk i in
      let new = (kept i was.0 was.1).says in
      let old = node_is disk i was.0 in
      pick (is_directory d) (λ t. is_directory d ≡ t → kind_of v made (inode_of made i) ≡ kind_of w disk d)
      (λ _ directory.
      let live : is_live_directory disk i ≡ true = directory_from disk i (record { low = old.low; bound = old.bound; directory = directory; live = was.1 }) in
      directory_shown v made (inode_of made i) (ap (is_number 1) new.kind ∙ directory)
      ∙ ap (λ (slots : List (Option Dirent)). Directory (map slot_of slots)) (slots_there i live)
      ∙ sym (directory_shown w disk d directory))
      (λ _ other.
      let there = bytes_there i was.0 was.1 other in
      pick (is_file d) (λ t. is_file d ≡ t → kind_of v made (inode_of made i) ≡ kind_of w disk d)
      (λ _ file.
      file_shown v made (inode_of made i) (ap (is_number 1) new.kind ∙ other) (ap (is_number 2) new.kind ∙ file)
      ∙ ap File (content-read made (inode_of made i) (content_of disk d) there.says.size there.content)
      ∙ sym (file_shown w disk d other file))
      (λ _ device.
      device_shown v made (inode_of made i) (ap (is_number 1) new.kind ∙ other) (ap (is_number 2) new.kind ∙ device)
      ∙ ap (λ (n : ℤ). Device n (inode_of made i).minor (inode_of made i).size) new.major
      ∙ ap (λ (n : ℤ). Device d.major n (inode_of made i).size) new.minor
      ∙ ap (Device d.major d.minor) (there.says.size ∙ content_long w disk i whole well was.0)
      ∙ sym (device_shown w disk d other device))
      refl)
      refl

  pub is_like : IsLike w v disk made
  is_like = record {
    ninodes = count_same;
    node = node_same;
    live = live_same;
    slots = slots_same;
    kind = λ i is. let was = was_live i is in (kept i was.0 was.1).says.kind;
    nlink = λ i is. let was = was_live i is in (kept i was.0 was.1).says.nlink;
    shown = shown_same;
  }

  -- ---- the checks of inodes

  pub types_new : HasGoodTypes made
  types_new i low high =
      let old : HasGoodTypes disk = well.0.0.0.0.0.0.0.0.1 in
      pick (is_node disk i && is_live (inode_of disk i)) (λ t. (is_node disk i && is_live (inode_of disk i)) ≡ t → IsGoodType (inode_of made i))
      (λ _ yes.
      let was = both (is_node disk i) (is_live (inode_of disk i)) yes in
      let new = (kept i was.0 was.1).says in
      type_same (inode_of disk i) (inode_of made i) new.kind new.nlink (old i low (omega (arith, high, count_same))))
      (λ _ none. free_type (inode_of made i) (gone i low high none))
      refl

  root_node : is_node disk 1 ≡ true
  root_node = root_there w disk well

  root_live : is_live (inode_of disk 1) ≡ true
  root_live =
      pick (is_live (inode_of disk 1)) (λ t. is_live (inode_of disk 1) ≡ t → t ≡ true)
      (λ _ _. refl)
      (λ _ dead. absurd (no_root w disk 1 root_node dead old_slots old_tree old_counts refl))
      refl

  pub root_new : HasRoot made
  root_new =
      let root : HasRoot disk = well.0.0.0.0.0.0.0.1 in
      let new = (kept 1 root_node root_live).says in
      (new.kind ∙ root.0, subst (λ (n : ℤ). pos 0 <ℤ n) (sym new.nlink) root.1)

  slots_fit : (i : ℕ) → is_live_directory disk i ≡ true → (2 * dirent_len_of v ≤ (inode_of made i).size) × ((inode_of made i).size % dirent_len_of v ≡ 0)
  slots_fit i live =
      let slots : List (Option Dirent) = slots_of w disk (inode_of disk i) in
      let old : HasGoodSizes w disk = well.0.0.0.1 in
      let long : (inode_of made i).size ≡ dirent_len_of v * length slots = (spelled i live).says.size ∙ length-spelled v slots (read_all i live) in
      let two : 2 ≤ length slots = first_two w disk i old live (directory_node i live) in
      subst (λ (n : ℕ). (2 * dirent_len_of v ≤ n) × (n % dirent_len_of v ≡ 0)) (sym long) (two_slots v (length slots) two, (count_slots v (length slots)).1)

  pub sizes_good : HasGoodSizes v made
  sizes_good i is =
      let was = was_live i is in
      let new = kept i was.0 was.1 in
      let old = node_is disk i was.0 in
      let here = node_is made i is in
      let content : List ℕ = content_as w v disk (inode_of disk i) in
      let all = new_is i here.low here.bound in
      let small : length (new_node w v disk i).content ≤ largest_size =
      each-inode v size (sizes_of disk).ninodes (new_nodes w v disk) laid (λ k. length (new_node w v disk k).content ≤ largest_size) small_at i here.low here.bound in
      record {
        fits = record {
          limit = subst (λ (n : ℕ). n ≤ largest_size) (sym all.says.size) small;
          slots = λ directory live.
              slots_fit i (directory_from disk i (record { low = old.low; bound = old.bound; directory = sym (ap (is_number 1) new.says.kind) ∙ directory; live = was.1 }));
        };
        named = λ k below. new.named k (subst (λ (n : ℕ). block_len * k < n) new.says.size below);
      }
