-- An image holds the tree that is stated of its files.
use Rattle.mkfs.proofs.Vocabulary.{Version, ◌≡◌, ⊎_elim, ℕ, zero, suc, ◌+◌, ◌-◌, ◌<◌, ◌≤◌, true, false, List, [], ◌∷◌, ◌++◌, length, take, map, replicate, get_or, Some, None, Option, refl, sym, ap, ◌∙◌, arith, length-append, cases_lt, take_all, take_more, length-map, length-replicate, get_or-map, get_or_append_left, get_or-append_right, Dinode, Dirent, Free, sizes_of, Slot, Directory, File, at_rest, inode_of, is_node, is_directory, is_number, slots_of, content_of, slot_of, is_file, kind_of, node_of, first_nodes, tree_in, no_node_zero, entries_from, slots_from, root_slots, root_in_tree, file_in_tree, stated_tree}
use Rattle.plain_tree.specs.declared.node.Node.{Node}
use Rattle.mkfs.proofs.Basics.{all_entries, free_entries}
use Rattle.mkfs.proofs.FilesShown.{ShowsFiles}
use Rattle.mkfs.proofs.Directories.{root_directory, root_is_node, file_is_node, file_no_directory, past_no_node}

-- ---- the root's slots

slots-from : (number : ℕ) (names : List (List ℕ)) (rest : List Dirent)
    → map slot_of (map Some (entries_from number names ++ rest)) ≡ slots_from number names ++ map slot_of (map Some rest)
slots-from number [] rest = refl
slots-from number (name ∷ names) rest =
    ap (λ (slots : List (Option Slot)). Some (record { name = name; number = number }) ∷ slots) (slots-from (number + 1) names rest)

slots-free : (n : ℕ) → map slot_of (map Some (replicate n Free)) ≡ replicate n None
slots-free zero = refl
slots-free (suc n) = ap (λ (slots : List (Option Slot)). None ∷ slots) (slots-free n)

slots-are : (v : Version) (names : List (List ℕ)) → map slot_of (map Some (all_entries v names)) ≡ root_slots v names
slots-are v names =
    let free : ℕ = free_entries v (length names) in
    let first : Option Slot = Some (record { name = 46 ∷ []; number = 1 }) in
    let second : Option Slot = Some (record { name = 46 ∷ 46 ∷ []; number = 1 }) in
    ap (λ (slots : List (Option Slot)). first ∷ second ∷ slots)
    (slots-from 2 names (replicate free Free) ∙ ap (λ (slots : List (Option Slot)). slots_from 2 names ++ slots) (slots-free free))

-- ---- kinds

directory-kind : (v : Version) (disk : List (List ℕ)) (d : Dinode) → is_directory d ≡ true → kind_of v disk d ≡ Directory (map slot_of (slots_of v disk d))
unfolding kind_of
directory-kind v disk d is = rw is refl

file-kind : (v : Version) (disk : List (List ℕ)) (d : Dinode) → is_directory d ≡ false → is_file d ≡ true → kind_of v disk d ≡ File (content_of disk d)
unfolding kind_of
file-kind v disk d not is = rw (not, is) refl

-- ---- the nodes, one by one

-- the nodes that a list has
first-are : (v : Version) (disk : List (List ℕ)) (nodes : List (Option Node)) (n : ℕ) → n ≤ length nodes → ((i : ℕ) → i < length nodes → node_of v disk i ≡ get_or nodes i None)
    → first_nodes v disk n ≡ take n nodes
unfolding first_nodes
first-are v disk nodes zero h at = refl
first-are v disk nodes (suc n) h at =
    let count : n + 1 ≡ suc n = omega arith in
    ap (λ (xs : List (Option Node)). xs ++ node_of v disk n ∷ []) (first-are v disk nodes n (omega arith) at)
    ∙ ap (λ (node : Option Node). take n nodes ++ node ∷ []) (at n (omega arith))
    ∙ sym (take_more nodes n None (omega arith))
    ∙ ap (λ (k : ℕ). take k nodes) count

no-node : (v : Version) (disk : List (List ℕ)) (i : ℕ) → is_node disk i ≡ false → node_of v disk i ≡ None
unfolding node_of
no-node v disk i not = rw not refl

get_or-same : {X : Type 0} (x : X) (n i : ℕ) → get_or (replicate n x) i x ≡ x
get_or-same x zero i = refl
get_or-same x (suc n) zero = refl
get_or-same x (suc n) (suc i) = get_or-same x n i

module _ (v : Version) (disk : List (List ℕ)) (ninodes : ℕ) (names contents : List (List ℕ)) (h : ShowsFiles v disk ninodes names contents) where
  root-there : node_of v disk 1 ≡ root_in_tree v names
  unfolding node_of
  root-there =
      let kind : kind_of v disk (inode_of disk 1) ≡ Directory (root_slots v names) =
      directory-kind v disk (inode_of disk 1) (root_directory v disk ninodes names contents h)
      ∙ ap (λ slots. Directory (map slot_of slots)) h.slots
      ∙ ap Directory (slots-are v names) in
      rw (root_is_node v disk ninodes names contents h, kind, h.root.count) refl

  file-there : (j : ℕ) → j < length contents → node_of v disk (j + 2) ≡ file_in_tree (get_or contents j [])
  unfolding node_of
  file-there j l =
      let kind : kind_of v disk (inode_of disk (j + 2)) ≡ File (get_or contents j []) =
      file-kind v disk (inode_of disk (j + 2)) (file_no_directory v disk ninodes names contents h j l) (ap (is_number 2) (h.file j l).kind)
      ∙ ap File (h.content j l) in
      rw (file_is_node v disk ninodes names contents h j l, kind, (h.file j l).count) refl

  -- the files, and no nodes after them
  behind : List (Option Node)
  behind = map file_in_tree contents ++ replicate (ninodes - (2 + length contents)) None

  behind-there : (j : ℕ) → node_of v disk (j + 2) ≡ get_or behind j None
  unfolding behind
  behind-there j =
      let files : List (Option Node) = map file_in_tree contents in
      let free : ℕ = ninodes - (2 + length contents) in
      let none : Option Node = None in
      let many : length files ≡ length contents = length-map contents file_in_tree in
      ⊎_elim
      (λ (l : j < length contents).
      file-there j l ∙ sym (get_or_append_left files (replicate free none) none j (omega (arith, many)) ∙ get_or-map file_in_tree contents j [] none l))
      (λ (past : length contents ≤ j).
      no-node v disk (j + 2) (past_no_node v disk ninodes names contents h (j + 2) (omega arith))
      ∙ sym (get_or-append_right files (replicate free none) (length contents) j none many past ∙ get_or-same none free (j - length contents)))
      (cases_lt j (length contents))

  each-node : (i : ℕ) → node_of v disk i ≡ get_or (None ∷ root_in_tree v names ∷ behind) i None
  each-node zero = no-node v disk 0 (no_node_zero disk)
  each-node (suc zero) = root-there
  each-node (suc (suc j)) = let place : suc (suc j) ≡ j + 2 = omega arith in ap (node_of v disk) place ∙ behind-there j

  length-behind : 2 + length behind ≡ ninodes
  unfolding behind
  length-behind =
      let free : ℕ = ninodes - (2 + length contents) in
      let none : Option Node = None in
      omega (arith, length-append (map file_in_tree contents) (replicate free none), length-map contents file_in_tree, length-replicate free none, h.room)

  nodes-are : first_nodes v disk (sizes_of disk).ninodes ≡ (stated_tree v ninodes names contents).nodes
  unfolding behind
  nodes-are =
      let nodes : List (Option Node) = None ∷ root_in_tree v names ∷ behind in
      let all : length nodes ≡ ninodes = omega (arith, length-behind) in
      let same : length nodes ≤ length nodes = omega arith in
      ap (first_nodes v disk) (h.count ∙ sym all)
      ∙ first-are v disk nodes (length nodes) same (λ i l. each-node i)
      ∙ take_all (length nodes) nodes same

  pub tree_is : tree_in v disk ≡ stated_tree v ninodes names contents
  tree_is =
      ap at_rest nodes-are
