-- The tree of a well-formed image is one forest under the root, and its counts are numbers of links.
use Rattle.inodes_on_blocks.proofs.Vocabulary.{◌≡◌, ℕ, ◌+◌, ◌<◌, ◌≤◌, Bool, true, false, ℤ, pos, negsuc, inl, inr, refl, sym, ◌∙◌, ap, subst, arith, List, Option, Some, None, nat_lt, ◌<ℤ◌, false≢true, nat_tests, sizes_of, Node, root, inode_of, is_number, is_positive, is_directory, is_live, is_node, is_live_directory, slots_in, up, names_of, further_names_of, children_of, HasRoot, HasGoodSlots, IsOneTree, HasGoodCounts, count_of, node_of, node_is, directory_is, directory_from, Slots, links_of, up_in, past, count_in, mentions, IsInOrder, IsForest, either}
use Rattle.inodes_on_blocks.proofs.ImageSlots.{in_tree, dots_stand, names_stand_once}
use Rattle.inodes_on_blocks.proofs.Nodes.{no_node, dead_node, live_node, directory_node, directory_folder, other_folder, past_counts, directory_there}
use Rattle.inodes_on_blocks.proofs.Links.{folders_in, up_of, mentions_are, further_le_names, unnamed_no_node, up_live, stands_once, file_names, children_are}
use Rattle.inodes_on_blocks.proofs.Depths.{depth_in, higher}

-- the counts of the tree's nodes
abbrev pub links_here : List (List ℕ) → ℕ → ℕ
links_here disk = λ i. links_of (node_of disk i)

-- a count that isn't above 0
dead_count : (z : ℤ) (n : ℕ) → z ≡ pos n → is_positive z ≡ false → n ≡ 0
dead_count (pos m) n e h = let same : m ≡ n = ap count_of e in let low : nat_lt 0 m ≡ false = h in grind (arith, nat_tests)
dead_count (negsuc m) n e h = absurd (let q : false ≡ true = ap is_negative (sym e) in cc)
  where
    is_negative : ℤ → Bool
    is_negative (pos k) = false
    is_negative (negsuc k) = true

positive : (z : ℤ) → pos 0 <ℤ z → is_positive z ≡ true
positive (pos n) h = grind (arith, nat_tests)
positive (negsuc n) h = absurd h.lt

module _ (disk : List (List ℕ)) (many : 2 ≤ (sizes_of disk).ninodes) (has_root : HasRoot disk) (good : HasGoodSlots disk) (one : IsOneTree disk) (counts : HasGoodCounts disk) where
  pub root_live : is_live_directory disk 1 ≡ true
  root_live =
      directory_from disk 1 (record { low = omega arith; bound = many; directory = ap (is_number 1) has_root.0; live = positive (inode_of disk 1).nlink has_root.1 })

  is_folder : (i : ℕ) (ss : Slots) → folders_in disk i ≡ Some ss → is_live_directory disk i ≡ true
  is_folder i ss is = elim (either (is_live_directory disk i)) [
    | inl y ↦ y
    | inr y ↦ absurd (let none = other_folder disk i y in cc (none, is))
  ]

  is_other : (i : ℕ) → folders_in disk i ≡ None → is_live_directory disk i ≡ false
  is_other i is = elim (either (is_live_directory disk i)) [
    | inr y ↦ y
    | inl y ↦ absurd (let some = directory_folder disk i y in cc (some, is))
  ]

  links_of_directory : (i : ℕ) → is_live_directory disk i ≡ true → links_here disk i ≡ 1 + children_of disk i
  links_of_directory i live =
      let is = directory_is disk i live in
      ap (λ (v : Option Node). links_of v) (directory_there disk i live) ∙ ap count_of ((counts i (directory_node disk i live)).directory is.directory is.live)

  abbrev InOrder : ℕ → Slots → Type 0
  InOrder i ss = IsInOrder (folders_in disk) (links_here disk) (λ n. 0) (sizes_of disk).ninodes (depth_in disk good one) i ss

  in_order : (i : ℕ) → is_live_directory disk i ≡ true → InOrder i (in_tree (slots_in disk i))
  in_order i live =
      let is = directory_is disk i live in
      let slots = good i live in
      let here : up_in (in_tree (slots_in disk i)) ≡ up disk i = up_of disk i in
      let above : is_live_directory disk (up disk i) ≡ true = up_live disk good one i live in
      let F = folders_in disk in
      record {
        within = is.bound;
        dots = dots_stand (slots_in disk i) i slots.first slots.second;
        once = names_stand_once (slots_in disk i) slots.names;
        above = λ none. absurd (let some : F (up_in (in_tree (slots_in disk i))) ≡ Some (in_tree (slots_in disk (up disk i))) = ap F here ∙ directory_folder disk (up disk i) above in cc (some, none));
        counted = links_of_directory i live ∙ ap (λ (n : ℕ). 1 + n) (sym (children_are disk good one i is.low (omega (arith, many))));
        unheld = refl;
        rooted = λ e. (
          here ∙ ap (up disk) e ∙ one.root,
          mentions_are disk root (omega (arith, many)) ∙ one.root_unnamed,
        );
        place = λ ne. (
          mentions_are disk i (omega (arith, many)) ∙ one.named i live ne,
          ap (λ (n : ℕ). count_in (past (F n)) i) here ∙ past_counts disk (up disk i) i ∙ stands_once disk good one i live ne,
          subst (λ (n : ℕ). depth_in disk good one n < depth_in disk good one i) (sym here) (higher disk good one i live ne),
        );
      }

  -- what has no node has no name
  dead_unnamed : (i : ℕ) → node_of disk i ≡ None → further_names_of disk i ≡ 0
  dead_unnamed i none = elim (either (is_node disk i)) [
    | inr n ↦ let names : names_of disk i ≡ 0 = unnamed_no_node disk i good n in omega (arith, names, further_le_names disk i)
    | inl n ↦ elim (either (is_live (inode_of disk i))) [
      | inl l ↦ absurd (let some = live_node disk i n l in cc (some, none))
      | inr l ↦ elim (either (is_directory (inode_of disk i))) [
        | inl d ↦ (counts i n).dead d l
        | inr d ↦
            let names : names_of disk i ≡ 0 = dead_count (inode_of disk i).nlink (names_of disk i) ((counts i n).file d) l in
            omega (arith, names, further_le_names disk i)
      ]
    ]
  ]

  other_links : (i : ℕ) → is_live_directory disk i ≡ false → links_here disk i ≡ further_names_of disk i
  other_links i not = elim (either (is_node disk i)) [
    | inr n ↦ let none = no_node disk i n in ap (λ (v : Option Node). links_of v) none ∙ sym (dead_unnamed i none)
    | inl n ↦ elim (either (is_live (inode_of disk i))) [
      | inr l ↦ let none = dead_node disk i l in ap (λ (v : Option Node). links_of v) none ∙ sym (dead_unnamed i none)
      | inl l ↦ elim (either (is_directory (inode_of disk i))) [
        | inl d ↦ let is = node_is disk i n in absurd (false≢true (sym not ∙ directory_from disk i (record { low = is.low; bound = is.bound; directory = d; live = l })))
        | inr d ↦
            ap (λ (v : Option Node). links_of v) (live_node disk i n l)
            ∙ ap count_of ((counts i n).file d)
            ∙ file_names disk good one i not
      ]
    ]
  ]

  pub forest : IsForest (folders_in disk) (links_here disk) (λ n. 0) (sizes_of disk).ninodes (depth_in disk good one)
  forest = record {
    rooted = λ none. absurd (let some = directory_folder disk 1 root_live in cc (some, none));
    directory = λ i ss is.
        let live : is_live_directory disk i ≡ true = is_folder i ss is in
        let q : Some (in_tree (slots_in disk i)) ≡ Some ss = sym (directory_folder disk i live) ∙ is in
        let same : in_tree (slots_in disk i) ≡ ss = cc in
        subst (InOrder i) same (in_order i live);
    other = λ i none.
        let links : links_here disk i ≡ further_names_of disk i = other_links i (is_other i none) in
        let said : mentions (folders_in disk) (sizes_of disk).ninodes i ≡ further_names_of disk i = mentions_are disk i (omega (arith, many)) in
        omega (arith, links, said);
  }
