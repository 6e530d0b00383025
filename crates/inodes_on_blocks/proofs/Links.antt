-- Who names whom, in an image whose slots are good and that is one tree.
use Rattle.inodes_on_blocks.proofs.Vocabulary.{◌≡◌, ◌≢◌, ◌⊎◌, ℕ, zero, suc, ◌-◌, ◌≤◌, Bool, true, false, not, eqb, inl, inr, refl, sym, ◌∙◌, ap, subst, arith, List, [], ◌∷◌, drop, filter, Option, ◌&&◌, All, false≢true, All-head, All-tail, sizes_of, root, gathered, times, is_node, is_live_directory, last, slots_in, slot_numbers, up, named_in, further_in, proper_in, parent_of, names_of, further_names_of, children_of, climb, HasGoodSlots, IsOneTree, node_of, directory_is, up_none, no_directory_zero, Slots, Folders, folder, one_if, up_in, has_up, past, count_in, sum_below, mentions, children, either, eq_self, eq_not, same_or, count_nil, version_in}
use Rattle.inodes_on_blocks.proofs.Lists.{times_nil, times_cons, no_hit, sum_gathered, gathered_same, gathered_le, gathered_none, gathered_only, times_filtered, times_dropped, filter_keeps, filter_drops}
use Rattle.inodes_on_blocks.proofs.ImageSlots.{Entries, in_tree, up_same, further_le}
use Rattle.image_tree.proofs.Unnamed.{further_same}
use Rattle.inodes_on_blocks.proofs.Nodes.{no_slots, directory_folder, other_folder, past_counts}

-- the slots of the tree's live directories
abbrev pub folders_in : List (List ℕ) → Folders
folders_in disk = λ i. folder (node_of disk i)

pub up_of : (disk : List (List ℕ)) (i : ℕ) → up_in (in_tree (slots_in disk i)) ≡ up disk i
up_of disk i = up_same (slots_in disk i)

no_further : (disk : List (List ℕ)) (i : ℕ) → is_live_directory disk i ≡ false → further_in disk i ≡ []
no_further disk i h = ap (λ (slots : Entries). slot_numbers (drop 2 slots)) (no_slots disk i h)

-- how many slots past the first two name i
pub mentions_are : (disk : List (List ℕ)) (i : ℕ) → 1 ≤ (sizes_of disk).ninodes → mentions (folders_in disk) (sizes_of disk).ninodes i ≡ further_names_of disk i
unfolding mentions
mentions_are disk i some =
    let all : ℕ = (sizes_of disk).ninodes in
    let e : all ≡ suc (all - 1) = omega arith in
    let named : ℕ → ℕ = λ d. count_in (past (folders_in disk d)) i in
    let none : named 0 ≡ 0 = ap (λ (o : Option Slots). count_in (past o) i) (other_folder disk 0 (no_directory_zero disk)) ∙ count_nil i in
    ap (λ (n : ℕ). sum_below n named) e ∙ sum_gathered (further_in disk) named i (all - 1) none (λ d low high. past_counts disk d i)

pub further_le_names : (disk : List (List ℕ)) (i : ℕ) → further_names_of disk i ≤ names_of disk i
further_le_names disk i = gathered_le (further_in disk) (named_in disk) i (last disk) (λ d. further_le (slots_in disk d) i)

times_absent : (p : ℕ → Bool) (i : ℕ) (xs : List ℕ) → All (λ n. p n ≡ true) xs → p i ≡ false → times i xs ≡ 0
times_absent p i [] all h = times_nil i
times_absent p i (x ∷ xs) all h =
    let here : p x ≡ true = All-head (λ n. p n ≡ true) x xs all in
    let rest : times i xs ≡ 0 = times_absent p i xs (All-tail (λ n. p n ≡ true) x xs all) h in
    omega (arith, times_cons i x xs, rest, no_hit x i (λ e. absurd (let q : p x ≡ p i = ap p e in cc (q, here, h))))

-- what is no node has no name
pub unnamed_no_node : (disk : List (List ℕ)) (i : ℕ) → HasGoodSlots disk → is_node disk i ≡ false → names_of disk i ≡ 0
unnamed_no_node disk i good h =
    gathered_none (named_in disk) i (last disk) (λ d.
    elim (either (is_live_directory disk d)) [
      | inl y ↦ times_absent (is_node disk) i (named_in disk d) (good d y).nodes h
      | inr y ↦ ap (λ (slots : Entries). times i (slot_numbers slots)) (no_slots disk d y)
    ])

module _ (disk : List (List ℕ)) (good : HasGoodSlots disk) (one : IsOneTree disk) where
  unproper : (i k : ℕ) → up disk i ≢ k → times i (proper_in disk k) ≡ 0
  unproper i k ne = times_dropped (λ n. eqb (up disk n) k) i (further_in disk k) (eq_not (up disk i) k ne)

  proper : (i k : ℕ) → up disk i ≡ k → times i (proper_in disk k) ≡ times i (further_in disk k)
  proper i k e = times_filtered (λ n. eqb (up disk n) k) i (further_in disk k) (subst (λ (z : ℕ). eqb (up disk i) z ≡ true) e (eq_self (up disk i)))

  -- the ".." of a live directory is one
  pub up_live : (i : ℕ) → is_live_directory disk i ≡ true → is_live_directory disk (up disk i) ≡ true
  up_live i live = elim (same_or i root) [
    | inl e ↦ subst (λ (z : ℕ). is_live_directory disk z ≡ true) (sym (ap (up disk) e ∙ one.root ∙ sym e)) live
    | inr ne ↦ elim (either (is_live_directory disk (up disk i))) [
      | inl y ↦ y
      | inr y ↦
          let none : times i (gathered (proper_in disk) (last disk)) ≡ 0 = gathered_none (proper_in disk) i (last disk) (λ k. elim (same_or (up disk i) k) [
            | inr other ↦ unproper i k other
            | inl e ↦ proper i k e ∙ ap (times i) (no_further disk k (subst (λ (z : ℕ). is_live_directory disk z ≡ false) e y))
          ]) in
          absurd (omega (arith, none, one.proper i live ne))
    ]
  ]

  -- a directory is once in its ".."
  pub stands_once : (i : ℕ) → is_live_directory disk i ≡ true → i ≢ 1 → times i (further_in disk (up disk i)) ≡ 1
  stands_once i live ne =
      let above = directory_is disk (up disk i) (up_live i live) in
      let low = above.low in
      let bound = above.bound in
      let all : times i (gathered (proper_in disk) (last disk)) ≡ times i (proper_in disk (up disk i)) =
      gathered_only (proper_in disk) i (last disk) (up disk i) low (omega (arith, bound)) (λ k other. unproper i k (λ e. other (sym e))) in
      sym (proper i (up disk i) refl) ∙ sym all ∙ one.proper i live ne

  climb_stays : (n i : ℕ) → up disk i ≡ i → climb (up disk) n i ≡ i
  unfolding climb
  climb_stays zero i e = refl
  climb_stays (suc n) i e = ap (climb (up disk) n) e ∙ climb_stays n i e

  -- only the root is its own ".."
  pub up_differs : (i : ℕ) → is_live_directory disk i ≡ true → i ≢ 1 → up disk i ≢ i
  up_differs i live ne e = let way = one.reaches i live in ne (sym (climb_stays way.steps.0 i e) ∙ way.steps.1)

  -- what is no directory is named past the first two slots alone
  pub file_names : (i : ℕ) → is_live_directory disk i ≡ false → names_of disk i ≡ further_names_of disk i
  file_names i h =
      gathered_same (named_in disk) (further_in disk) i (last disk) (λ d.
      elim (either (is_live_directory disk d)) [
        | inl y ↦ further_same (slots_in disk d) d i (good d y).first (good d y).second (apart d y) (apart (up disk d) (up_live d y))
        | inr y ↦ ap (λ (slots : Entries). times i (slot_numbers slots)) (no_slots disk d y) ∙ ap (λ (slots : Entries). times i (slot_numbers (drop 2 slots))) (sym (no_slots disk d y))
      ])
    where
      apart : (d : ℕ) → is_live_directory disk d ≡ true → d ≢ i
      apart d y e = false≢true (sym h ∙ subst (λ (z : ℕ). is_live_directory disk z ≡ true) e y)

  -- ---- directories in directories

  child : ℕ → ℕ → ℕ
  child i c = one_if (not (eqb c root) && has_up (folders_in disk c) i)

  no_up : (i c : ℕ) → is_live_directory disk c ≡ false → has_up (folders_in disk c) i ≡ false
  no_up i c h = ap (λ (o : Option Slots). has_up o i) (other_folder disk c h)

  some_up : (i c : ℕ) → is_live_directory disk c ≡ true → has_up (folders_in disk c) i ≡ eqb (up disk c) i
  some_up i c h = ap (λ (o : Option Slots). has_up o i) (directory_folder disk c h) ∙ ap (λ (n : ℕ). eqb n i) (up_of disk c)

  alone : (i n : ℕ) → times i (n ∷ []) ≡ one_if (eqb n i)
  alone i n = omega (arith, times_cons i n [], times_nil i)

  -- a number alone, with another one left out
  kept : (i n c : ℕ) → eqb n c ≡ false → times i (filter (λ m. not (eqb m c)) (n ∷ [])) ≡ one_if (eqb n i)
  kept i n c h = ap (times i) (filter_keeps (λ m. not (eqb m c)) n [] (ap not h)) ∙ alone i n

  left_out : (i n c : ℕ) → eqb n c ≡ true → times i (filter (λ m. not (eqb m c)) (n ∷ [])) ≡ 0
  left_out i n c h = ap (times i) (filter_drops (λ m. not (eqb m c)) n [] (ap not h))

  only_up : (b c : Bool) → b ≡ false → one_if (not b && c) ≡ one_if c
  only_up b c h = rw h refl

  no_child : (b c : Bool) → (b ≡ true) ⊎ (c ≡ false) → one_if (not b && c) ≡ 0
  unfolding one_if
  no_child b c (inl h) = rw h refl
  no_child true c (inr h) = refl
  no_child false c (inr h) = rw h refl

  child_same : (i c : ℕ) → 1 ≤ i → 1 ≤ c → child i c ≡ times i (parent_of disk c)
  unfolding child
  child_same i c low some = elim (either (is_live_directory disk c)) [
    | inr y ↦
        let zero : eqb 0 c ≡ false = eq_not 0 c (λ e. absurd (omega (arith, e))) in
        let parent : times i (parent_of disk c) ≡ one_if (eqb 0 i) =
        ap (λ (n : ℕ). times i (filter (λ m. not (eqb m c)) (n ∷ []))) (up_none (version_in disk) disk c y) ∙ kept i 0 c zero in
        no_child (eqb c root) (has_up (folders_in disk c) i) (inr (no_up i c y)) ∙ sym (parent ∙ no_hit 0 i (λ e. absurd (omega (arith, e))))
    | inl y ↦ elim (same_or c 1) [
      | inl e ↦
          let self : eqb (up disk c) c ≡ true = subst (λ (z : ℕ). eqb (up disk z) z ≡ true) (sym e) (subst (λ (z : ℕ). eqb z 1 ≡ true) (sym one.root) (eq_self 1)) in
          let is : eqb c root ≡ true = subst (λ (z : ℕ). eqb z root ≡ true) (sym e) (eq_self 1) in
          no_child (eqb c root) (has_up (folders_in disk c) i) (inl is) ∙ sym (left_out i (up disk c) c self)
      | inr ne ↦
          only_up (eqb c root) (has_up (folders_in disk c) i) (eq_not c root ne)
          ∙ ap (λ (b : Bool). one_if b) (some_up i c y)
          ∙ sym (kept i (up disk c) c (eq_not (up disk c) c (up_differs c y ne)))
    ]
  ]

  pub children_are : (i : ℕ) → 1 ≤ i → 1 ≤ (sizes_of disk).ninodes → children (folders_in disk) (sizes_of disk).ninodes i ≡ children_of disk i
  unfolding children child
  children_are i low some =
      let all : ℕ = (sizes_of disk).ninodes in
      let e : all ≡ suc (all - 1) = omega arith in
      ap (λ (n : ℕ). sum_below n (child i)) e ∙ sum_gathered (parent_of disk) (child i) i (all - 1) nothing (λ c some high. child_same i c low some)
    where
      nothing : child i 0 ≡ 0
      nothing = no_child (eqb 0 root) (has_up (folders_in disk 0) i) (inr (no_up i 0 (no_directory_zero disk)))
