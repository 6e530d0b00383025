-- The nodes of the tree that an image holds, and their slots.
use Rattle.inodes_on_blocks.proofs.Vocabulary.{◌≡◌, ⊎_elim, ℕ, zero, suc, ◌<◌, ◌≤◌, true, false, ℤ, pos, negsuc, inl, inr, refl, sym, ◌∙◌, ap, arith, List, [], ◌∷◌, length, length-append, drop, get_or, Option, Some, None, nat_lt, false≢true, false_from_ne_true, cases_lt, get_or_past, get_or_append_left, get_or_at, Dinode, sizes_of, Node, NodeKind, Directory, tree_of, live_directory, times, inode_of, is_positive, is_live, is_node, is_live_directory, slots_in, slot_numbers, further_in, is_file, count_of, node_of, first_nodes, tree_in, node_is, node_from, directory_is, directory_from, Slots, folder, past, count_in, either, folder_dead, count_nil, first_nodes_by, node_by, kind_by, slots_in_by, version_in}
use Rattle.plain_tree.specs.Tree.{is_directory}
use Rattle.image_tree.specs.Inodes as inodes
use Rattle.image_tree.specs.Images.{kind_of}
use Rattle.inodes_on_blocks.proofs.ImageSlots.{Entries, in_tree, past_in_tree, counts_same}
pub use Rattle.image_tree.proofs.SlotLemmas.{directory_kind}

-- ---- the nodes by number

length_first : (disk : List (List ℕ)) (n : ℕ) → length (first_nodes disk n) ≡ n
unfolding first_nodes_by
length_first disk zero = refl
length_first disk (suc n) = omega (arith, length-append (first_nodes disk n) (node_of disk n ∷ []), length_first disk n)

first_at : (disk : List (List ℕ)) (n i : ℕ) → i < n → get_or (first_nodes disk n) i None ≡ node_of disk i
unfolding first_nodes_by
first_at disk zero i l = absurd (omega arith)
first_at disk (suc n) i l =
    let many : length (first_nodes disk n) ≡ n = length_first disk n in
    ⊎_elim
    (λ (p : i < n). get_or_append_left (first_nodes disk n) (node_of disk n ∷ []) None i (omega (arith, many)) ∙ first_at disk n i p)
    (λ (p : n ≤ i).
    let e : n ≡ i = omega arith in
    get_or_at (first_nodes disk n) (node_of disk n) [] None i (omega (arith, many)) ∙ ap (node_of disk) e)
    (cases_lt i n)

pub no_node : (disk : List (List ℕ)) (i : ℕ) → is_node disk i ≡ false → node_of disk i ≡ None
unfolding node_by
no_node disk i h = rw h refl

pub dead_node : (disk : List (List ℕ)) (i : ℕ) → is_live (inode_of disk i) ≡ false → node_of disk i ≡ None
unfolding node_by
dead_node disk i h = elim (either (is_node disk i)) [
  | inl y ↦ rw (y, h) refl
  | inr y ↦ rw y refl
]

pub live_node : (disk : List (List ℕ)) (i : ℕ) → is_node disk i ≡ true → is_live (inode_of disk i) ≡ true
    → node_of disk i ≡ Some (record { count = count_of (inode_of disk i).nlink; kind = kind_of disk (inode_of disk i) })
unfolding node_by
live_node disk i h l = rw (h, l) refl

pub ninodes_are : (disk : List (List ℕ)) → (tree_of (tree_in disk)).ninodes ≡ (sizes_of disk).ninodes
ninodes_are disk = length_first disk (sizes_of disk).ninodes

-- the tree has the nodes of the image
pub nodes_at : (disk : List (List ℕ)) (i : ℕ) → (tree_of (tree_in disk)).nodes i ≡ node_of disk i
nodes_at disk i =
    let n : ℕ = (sizes_of disk).ninodes in
    ⊎_elim
    (λ (p : i < n). first_at disk n i p)
    (λ (p : n ≤ i).
    get_or_past (first_nodes disk n) i None (omega (arith, length_first disk n))
    ∙ sym (no_node disk i (false_from_ne_true (is_node disk i) (λ y. absurd (omega (arith, p, (node_is disk i y).bound))))))
    (cases_lt i n)

-- ---- live directories

-- a live directory is a node
pub directory_node : (disk : List (List ℕ)) (i : ℕ) → is_live_directory disk i ≡ true → is_node disk i ≡ true
directory_node disk i h =
    let is = directory_is disk i h in
    node_from disk i (record { low = is.low; bound = is.bound; used = directory_kind (inode_of disk i).kind is.directory })

pub kind_of_directory : (disk : List (List ℕ)) (d : Dinode) → inodes.is_directory d ≡ true → kind_of disk d ≡ Directory (in_tree (inodes.slots_of (version_in disk) disk d))
unfolding kind_by
kind_of_directory disk d h = rw h refl

kind_of_other : (disk : List (List ℕ)) (d : Dinode) → inodes.is_directory d ≡ false → is_directory (kind_of disk d) ≡ false
unfolding kind_by
kind_of_other disk d h = elim (either (is_file d)) [
  | inl y ↦ rw (h, y) refl
  | inr y ↦ rw (h, y) refl
]

pub positive_count : (z : ℤ) → is_positive z ≡ true → nat_lt 0 (count_of z) ≡ true
positive_count (pos n) h = h
positive_count (negsuc n) h = absurd (false≢true h)

pub slots_of_directory : (disk : List (List ℕ)) (i : ℕ) → is_live_directory disk i ≡ true → slots_in disk i ≡ inodes.slots_of (version_in disk) disk (inode_of disk i)
unfolding slots_in_by
slots_of_directory disk i h = rw h refl

pub no_slots : (disk : List (List ℕ)) (i : ℕ) → is_live_directory disk i ≡ false → slots_in disk i ≡ []
unfolding slots_in_by
no_slots disk i h = rw h refl

-- the node of a live directory
pub directory_there : (disk : List (List ℕ)) (i : ℕ) → is_live_directory disk i ≡ true
    → node_of disk i ≡ Some (record { count = count_of (inode_of disk i).nlink; kind = Directory (in_tree (slots_in disk i)) })
directory_there disk i h =
    let is = directory_is disk i h in
    let slots : kind_of disk (inode_of disk i) ≡ Directory (in_tree (slots_in disk i)) =
    kind_of_directory disk (inode_of disk i) is.directory ∙ ap (λ (ss : Entries). Directory (in_tree ss)) (sym (slots_of_directory disk i h)) in
    live_node disk i (directory_node disk i h) is.live
    ∙ ap (λ (k : NodeKind). Some (record { count = count_of (inode_of disk i).nlink; kind = k })) slots

pub directory_folder : (disk : List (List ℕ)) (i : ℕ) → is_live_directory disk i ≡ true → folder (node_of disk i) ≡ Some (in_tree (slots_in disk i))
directory_folder disk i h =
    let is = directory_is disk i h in
    ap (λ (v : Option Node). folder v) (directory_there disk i h) ∙ (rw (positive_count (inode_of disk i).nlink is.live) refl)

other_not_live : (disk : List (List ℕ)) (i : ℕ) → is_live_directory disk i ≡ false → live_directory (node_of disk i) ≡ false
other_not_live disk i h = elim (either (is_node disk i)) [
  | inr n ↦ ap (λ (v : Option Node). live_directory v) (no_node disk i n)
  | inl n ↦ elim (either (is_live (inode_of disk i))) [
    | inr l ↦ ap (λ (v : Option Node). live_directory v) (dead_node disk i l)
    | inl l ↦ elim (either (inodes.is_directory (inode_of disk i))) [
      | inl d ↦
          let is = node_is disk i n in
          absurd (false≢true (sym h ∙ directory_from disk i (record { low = is.low; bound = is.bound; directory = d; live = l })))
      | inr d ↦
          ap (λ (v : Option Node). live_directory v) (live_node disk i n l)
          ∙ (rw (kind_of_other disk (inode_of disk i) d, positive_count (inode_of disk i).nlink l) refl)
    ]
  ]
]

pub other_folder : (disk : List (List ℕ)) (i : ℕ) → is_live_directory disk i ≡ false → folder (node_of disk i) ≡ None
other_folder disk i h = folder_dead (node_of disk i) (other_not_live disk i h)

-- how many slots of inode d past the first two name i
pub past_counts : (disk : List (List ℕ)) (d i : ℕ) → count_in (past (folder (node_of disk d))) i ≡ times i (further_in disk d)
past_counts disk d i = elim (either (is_live_directory disk d)) [
  | inl y ↦
      ap (λ (o : Option Slots). count_in (past o) i) (directory_folder disk d y)
      ∙ ap (λ (ss : Slots). count_in ss i) (past_in_tree (slots_in disk d))
      ∙ counts_same (drop 2 (slots_in disk d)) i
  | inr y ↦
      ap (λ (o : Option Slots). count_in (past o) i) (other_folder disk d y)
      ∙ count_nil i
      ∙ ap (λ (ss : Entries). times i (slot_numbers (drop 2 ss))) (sym (no_slots disk d y))
]
