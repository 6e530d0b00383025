-- A disk that holds a forest has good slots, is one tree, and has good counts.
use Rattle.inodes_on_blocks.proofs.Vocabulary.{◌≡◌, ◌≢◌, ℕ, zero, suc, ◌+◌, ◌<◌, ◌≤◌, true, false, eqb, inl, inr, refl, sym, ◌∙◌, ap, subst, arith, List, [], ◌∷◌, drop, map, get_or, Option, Some, None, All, AllPairs, All-cons, All-nil, Dirent, Free, Used, sizes_of, Node, Name, same_name, dot, dotdot, first_slot, IsOnce, times, is_node, is_live_directory, last, slots_in, slot_numbers, slot_names, up, further_in, proper_in, names_of, further_names_of, proper_names_of, children_of, climb, IsDotDot, HasGoodSlots, IsOneTree, directory_is, Slots, links_of, one_if, past, count_in, mentions, IsInOrder, IsForest, either, eq_self, eq_not, same_or, same_self, slot_here, one_yes, entry_linked, entry_of}
use Rattle.tree_laws.specs.WellFormed.{NamesOnce}
use Rattle.inodes_on_blocks.proofs.Lists.{times_cons, gathered_only, times_filtered, times_dropped}
use Rattle.inodes_on_blocks.proofs.ImageSlots.{Entries, in_tree}
use Rattle.inodes_on_blocks.proofs.Nodes.{no_node, directory_node, directory_folder, other_folder, past_counts}
use Rattle.inodes_on_blocks.proofs.Links.{folders_in, up_of, mentions_are, file_names, children_are}
use Rattle.inodes_on_blocks.proofs.Forests.{links_here}

-- ---- lists

-- what holds of each number in a list
all_times : (P : ℕ → Type 0) (xs : List ℕ) → ((n : ℕ) → 1 ≤ times n xs → P n) → All P xs
all_times P [] h = All-nil P
all_times P (x ∷ xs) h =
    let one : one_if (eqb x x) ≡ 1 = one_yes (eqb x x) (eq_self x) in
    All-cons P x xs (h x (omega (arith, times_cons x x xs, one))) (all_times P xs (λ n some. h n (omega (arith, times_cons n x xs, some))))

pub pairs_cons : {X : Type 0} (R : X → X → Type 0) (x : X) (xs : List X) → All (R x) xs → AllPairs R xs → AllPairs R (x ∷ xs)
pairs_cons R x xs h all zero zero d l m = absurd (omega arith)
pairs_cons R x xs h all zero (suc j) d l m = h j d (omega arith)
pairs_cons R x xs h all (suc i) zero d l m = absurd (omega arith)
pairs_cons R x xs h all (suc i) (suc j) d l m = all i j d (omega arith) (omega arith)

-- ---- slots

-- a name that isn't found is another one than all these
not_found : (slots : Entries) (e : Name) → first_slot (in_tree slots) e ≡ None → All (λ y. e ≢ y) (slot_names slots)
unfolding first_slot
not_found [] e h = λ k d l. absurd (omega arith)
not_found (None ∷ slots) e h = not_found slots e h
not_found (Some Free ∷ slots) e h = not_found slots e h
not_found (Some (Used number name) ∷ slots) e h = elim (either (same_name name e)) [
  | inl y ↦ absurd (let found : Some number ≡ None = sym (slot_here (record { name = name; number = number }) (in_tree slots) e y) ∙ h in cc)
  | inr y ↦
      let rest : first_slot (in_tree slots) e ≡ None = rw y at h in
      All-cons (λ z. e ≢ z) name (slot_names slots)
      (λ same. let is : same_name name e ≡ true = subst (λ (z : Name). same_name z e ≡ true) same (same_self e) in cc (is, y))
      (not_found slots e rest)
]

once_names : (slots : Entries) → NamesOnce (in_tree slots) → IsOnce (slot_names slots)
unfolding NamesOnce
once_names [] h = record { apart = λ i j d l m. absurd (omega arith) }
once_names (None ∷ slots) h = once_names slots h
once_names (Some Free ∷ slots) h = once_names slots h
once_names (Some (Used number name) ∷ slots) h =
    record { apart = pairs_cons (λ x y. x ≢ y) name (slot_names slots) (not_found slots name h.0) (once_names slots h.1).apart }

are_entries : (slots : Slots) → All (λ slot. slot ≢ None) (map entry_of slots)
are_entries [] = λ k d l. absurd (omega arith)
are_entries (None ∷ slots) = All-cons (λ slot. slot ≢ None) (Some Free) (map entry_of slots) (λ e. absurd cc) (are_entries slots)
are_entries (Some s ∷ slots) = All-cons (λ slot. slot ≢ None) (Some (Used s.number s.name)) (map entry_of slots) (λ e. absurd cc) (are_entries slots)

-- ---- the disk

-- the slots of directories are entries
abbrev pub AreSpelled : List (List ℕ) → Type 0
AreSpelled disk = (i : ℕ) → is_live_directory disk i ≡ true → slots_in disk i ≡ map entry_of (in_tree (slots_in disk i))

module _ (disk : List (List ℕ)) (D : ℕ → ℕ) (f : IsForest (folders_in disk) (links_here disk) (λ n. 0) (sizes_of disk).ninodes D) (spelled : AreSpelled disk) where
  abbrev Order : ℕ → Slots → Type 0
  Order = IsInOrder (folders_in disk) (links_here disk) (λ n. 0) (sizes_of disk).ninodes D

  order : (i : ℕ) → is_live_directory disk i ≡ true → Order i (in_tree (slots_in disk i))
  order i live = f.directory i (in_tree (slots_in disk i)) (directory_folder disk i live)

  folder_live : (i : ℕ) → folders_in disk i ≢ None → is_live_directory disk i ≡ true
  folder_live i some = elim (either (is_live_directory disk i)) [
    | inl y ↦ y
    | inr y ↦ absurd (some (other_folder disk i y))
  ]

  up_live : (i : ℕ) → is_live_directory disk i ≡ true → is_live_directory disk (up disk i) ≡ true
  up_live i live = folder_live (up disk i) (subst (λ (k : ℕ). folders_in disk k ≢ None) (up_of disk i) (order i live).above)

  linked_node : (i : ℕ) → 1 ≤ links_here disk i → is_node disk i ≡ true
  linked_node i some = elim (either (is_node disk i)) [
    | inl y ↦ y
    | inr y ↦ absurd (let none : links_here disk i ≡ 0 = ap (λ (v : Option Node). links_of v) (no_node disk i y) in omega (arith, some, none))
  ]

  abbrev pub rest_of : ℕ → Entries
  rest_of i = map entry_of (drop 2 (in_tree (slots_in disk i)))

  pub stands : (i : ℕ) → is_live_directory disk i ≡ true → slots_in disk i ≡ Some (Used i dot) ∷ Some (Used (up disk i) dotdot) ∷ rest_of i
  stands i live =
      spelled i live
      ∙ ap (λ (ss : Slots). map entry_of ss) (order i live).dots
      ∙ ap (λ (n : ℕ). Some (Used i dot) ∷ Some (Used n dotdot) ∷ map entry_of (drop 2 (in_tree (slots_in disk i)))) (up_of disk i)

  further_node : (d i : ℕ) → is_live_directory disk d ≡ true → 1 ≤ times i (further_in disk d) → is_node disk i ≡ true
  further_node d i live some =
      linked_node i (entry_linked (folders_in disk) (links_here disk) (λ n. 0) (sizes_of disk).ninodes D d i (in_tree (slots_in disk d)) f
      (directory_folder disk d live) (omega (arith, past_counts disk d i, some)))

  numbers_are : (i : ℕ) → is_live_directory disk i ≡ true → slot_numbers (slots_in disk i) ≡ i ∷ up disk i ∷ further_in disk i
  numbers_are i live =
      let s = stands i live in
      ap (λ (es : Entries). slot_numbers es) s
      ∙ ap (λ (es : Entries). i ∷ up disk i ∷ slot_numbers es) (sym (ap (λ (es : Entries). drop 2 es) s))

  pub good_slots : HasGoodSlots disk
  good_slots i live =
      let s = stands i live in
      let P : ℕ → Type 0 = λ n. is_node disk n ≡ true in
      record {
        first = ap (λ (es : Entries). get_or es 0 None) s;
        second = subst (λ (e : Option Dirent). IsDotDot e) (sym (ap (λ (es : Entries). get_or es 1 None) s)) refl;
        entries = subst (All (λ slot. slot ≢ None)) (sym (spelled i live)) (are_entries (in_tree (slots_in disk i)));
        nodes =
            subst (All P) (sym (numbers_are i live))
            (All-cons P i (up disk i ∷ further_in disk i) (directory_node disk i live)
            (All-cons P (up disk i) (further_in disk i) (directory_node disk (up disk i) (up_live i live))
            (all_times P (further_in disk i) (λ n some. further_node i n live some))));
        names = once_names (slots_in disk i) (order i live).once;
      }

  -- ---- one tree

  pub root_live : is_live_directory disk 1 ≡ true
  root_live = folder_live 1 f.rooted

  some_inodes : 1 ≤ (sizes_of disk).ninodes
  some_inodes = let bound = (directory_is disk 1 root_live).bound in omega (arith, bound)

  climb_start : (d : ℕ) → climb (up disk) 0 d ≡ d
  unfolding climb
  climb_start d = refl

  climb_next : (n d : ℕ) → climb (up disk) (suc n) d ≡ climb (up disk) n (up disk d)
  unfolding climb
  climb_next n d = refl

  higher : (d : ℕ) → is_live_directory disk d ≡ true → d ≢ 1 → D (up disk d) < D d
  higher d live ne = subst (λ (n : ℕ). D n < D d) (up_of disk d) ((order d live).place ne).2

  reaches : (k d : ℕ) → is_live_directory disk d ≡ true → D d < k → (n : ℕ) × (climb (up disk) n d ≡ 1)
  reaches zero d live l = absurd (omega arith)
  reaches (suc k) d live l = elim (same_or d 1) [
    | inl e ↦ (0, climb_start d ∙ e)
    | inr ne ↦
        let low = higher d live ne in
        let ih = reaches k (up disk d) (up_live d live) (omega (arith, low, l)) in
        (suc ih.0, climb_next ih.0 d ∙ ih.1)
  ]

  in_up : (i : ℕ) → is_live_directory disk i ≡ true → i ≢ 1 → times i (further_in disk (up disk i)) ≡ 1
  in_up i live ne =
      sym (past_counts disk (up disk i) i) ∙ sym (ap (λ (n : ℕ). count_in (past (folders_in disk n)) i) (up_of disk i)) ∙ ((order i live).place ne).1

  proper_once : (i : ℕ) → is_live_directory disk i ≡ true → i ≢ 1 → proper_names_of disk i ≡ 1
  proper_once i live ne =
      let above = directory_is disk (up disk i) (up_live i live) in
      let bound = above.bound in
      gathered_only (proper_in disk) i (last disk) (up disk i) above.low (omega (arith, bound))
      (λ k other. times_dropped (λ n. eqb (up disk n) k) i (further_in disk k) (eq_not (up disk i) k (λ e. other (sym e))))
      ∙ times_filtered (λ n. eqb (up disk n) (up disk i)) i (further_in disk (up disk i)) (eq_self (up disk i))
      ∙ in_up i live ne

  pub one_tree : IsOneTree disk
  one_tree = record {
    root = sym (up_of disk 1) ∙ ((order 1 root_live).rooted refl).0;
    root_unnamed = sym (mentions_are disk 1 some_inodes) ∙ ((order 1 root_live).rooted refl).1;
    named = λ i live ne. sym (mentions_are disk i some_inodes) ∙ ((order i live).place ne).0;
    proper = λ i live ne. proper_once i live ne;
    reaches = λ i live. record { steps = reaches (suc (D i)) i live (omega arith) };
  }

  -- ---- counts

  -- what is no live directory has as many links as names
  pub other_names : (i : ℕ) → is_live_directory disk i ≡ false → links_here disk i ≡ further_names_of disk i
  other_names i not =
      let links : links_here disk i ≡ mentions (folders_in disk) (sizes_of disk).ninodes i + 0 = f.other i (other_folder disk i not) in
      omega (arith, links, mentions_are disk i some_inodes)

  pub all_names : (i : ℕ) → is_live_directory disk i ≡ false → links_here disk i ≡ names_of disk i
  all_names i not = other_names i not ∙ sym (file_names disk good_slots one_tree i not)

  pub directory_links : (i : ℕ) → is_live_directory disk i ≡ true → links_here disk i ≡ 1 + children_of disk i
  directory_links i live =
      let is = directory_is disk i live in
      (order i live).counted ∙ ap (λ (n : ℕ). 1 + n) (children_are disk good_slots one_tree i is.low some_inodes)
