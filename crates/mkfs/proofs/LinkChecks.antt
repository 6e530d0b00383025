-- An image is one tree, and its counts are good.
use Rattle.mkfs.proofs.Vocabulary.{Version, ◌≡◌, ◌≢◌, ⊎_elim, ℕ, zero, suc, ◌+◌, ◌<◌, ◌≤◌, Bool, true, false, not, eqb, cond, pos, List, [], ◌∷◌, ◌++◌, length, drop, filter, get_or, None, Option, refl, sym, ap, subst, ◌∙◌, arith, range_with_len, cases_eq, eq-eqb, ne_eqb, false≢true, append-nil, sum_by-cons, sum_by-append, Dirent, gathered, times, inode_of, last, slot_numbers, named_in, further_in, parent_of, up, further_names_of, children_of, climb, IsOneTree, HasGoodCounts, IsGoodCount}
use Rattle.image_tree.specs.Links.{number_in, names_of}
use Rattle.mkfs.proofs.FilesShown.{ShowsFiles}
use Rattle.mkfs.proofs.Directories.{IsFile, root_directory, root_live, root_bound, file_no_directory, which_node, one_directory, root_slots_in, other_slots_in}
use Rattle.mkfs.proofs.SlotChecks.{all-numbers, further-numbers}

-- ---- what is gathered

-- only inode 1 gives something
gathered-one : (f : ℕ → List ℕ) (n : ℕ) → 1 ≤ n → ((i : ℕ) → i ≢ 1 → f i ≡ []) → gathered f n ≡ f 1
unfolding gathered
gathered-one f zero low none = absurd (omega arith)
gathered-one f (suc zero) low none = refl
gathered-one f (suc (suc n)) low none =
    ap (λ (xs : List ℕ). xs ++ f (suc (suc n))) (gathered-one f (suc n) (omega arith) none)
    ∙ ap (λ (xs : List ℕ). f 1 ++ xs) (none (suc (suc n)) (λ e. absurd (omega arith)))
    ∙ append-nil (f 1)

-- how much one number adds to the count of another in a list
abbrev hits : ℕ → ℕ → ℕ
hits x i = cond (eqb x i) 1 0

-- a number that none of them gives
times-none : (f : ℕ → List ℕ) (i n : ℕ) → ((k : ℕ) → times i (f k) ≡ 0) → times i (gathered f n) ≡ 0
unfolding gathered
times-none f i zero none = refl
times-none f i (suc n) none =
    omega (arith, sum_by-append (λ (x : ℕ). hits x i) (gathered f n) (f (suc n)), times-none f i n none, none (suc n))

-- ---- numbers that rise

range-below : (i a n : ℕ) → i < a → times i (range_with_len a n) ≡ 0
range-below i a zero h = refl
range-below i a (suc n) h =
    let this : hits a i ≡ 0 = ap (λ (b : Bool). cond b 1 0) (ne_eqb a i (λ e. absurd (omega arith))) in
    omega (arith, sum_by-cons (λ (x : ℕ). hits x i) a (range_with_len (a + 1) n), this, range-below i (a + 1) n (omega arith))

range-within : (i a n : ℕ) → a ≤ i → i < a + n → times i (range_with_len a n) ≡ 1
range-within i a zero low high = absurd (omega arith)
range-within i a (suc n) low high =
    let more = sum_by-cons (λ (x : ℕ). hits x i) a (range_with_len (a + 1) n) in
    ⊎_elim
    (λ (e : a ≡ i).
    let this : hits a i ≡ 1 = ap (λ (b : Bool). cond b 1 0) (eq-eqb a i e) in
    omega (arith, more, this, range-below i (a + 1) n (omega arith)))
    (λ (e : a ≡ i → ⊥).
    let this : hits a i ≡ 0 = ap (λ (b : Bool). cond b 1 0) (ne_eqb a i e) in
    omega (arith, more, this, range-within i (a + 1) n (omega arith) (omega arith)))
    (cases_eq a i)

-- ---- of the image

module _ (v : Version) (disk : List (List ℕ)) (ninodes : ℕ) (names contents : List (List ℕ)) (h : ShowsFiles v disk ninodes names contents) where
  some-last : 1 ≤ last disk
  some-last = omega (arith, root_bound v disk ninodes names contents h)

  up-root : up v disk 1 ≡ 1
  up-root = ap (λ (slots : List (Option Dirent)). number_in (get_or slots 1 None)) (root_slots_in v disk ninodes names contents h)

  up-other : (i : ℕ) → i ≢ 1 → up v disk i ≡ 0
  up-other i other = ap (λ (slots : List (Option Dirent)). number_in (get_or slots 1 None)) (other_slots_in v disk ninodes names contents h i other)

  all-named : gathered (named_in v disk) (last disk) ≡ 1 ∷ 1 ∷ range_with_len 2 (length names)
  all-named =
      gathered-one (named_in v disk) (last disk) some-last (λ i other. ap slot_numbers (other_slots_in v disk ninodes names contents h i other))
      ∙ ap slot_numbers (root_slots_in v disk ninodes names contents h)
      ∙ all-numbers v names

  all-further : gathered (further_in v disk) (last disk) ≡ range_with_len 2 (length names)
  all-further =
      gathered-one (further_in v disk) (last disk) some-last (λ i other. ap (λ (slots : List (Option Dirent)). slot_numbers (drop 2 slots)) (other_slots_in v disk ninodes names contents h i other))
      ∙ ap (λ (slots : List (Option Dirent)). slot_numbers (drop 2 slots)) (root_slots_in v disk ninodes names contents h)
      ∙ further-numbers v names

  -- each file is named once
  file-named : (j : ℕ) → j < length contents → names_of v disk (j + 2) ≡ 1
  file-named j l =
      let i : ℕ = j + 2 in
      let numbers : List ℕ = range_with_len 2 (length names) in
      let count : ℕ → ℕ = λ x. hits x i in
      let not : hits 1 i ≡ 0 = ap (λ (b : Bool). cond b 1 0) (ne_eqb 1 i (λ e. absurd (omega arith))) in
      ap (times i) all-named
      ∙ omega (arith, sum_by-cons count 1 (1 ∷ numbers), sum_by-cons count 1 numbers, not, range-within i 2 (length names) (omega arith) (omega (arith, h.many)))

  -- the root is in no other directory, and no other is in it
  root-unnamed : further_names_of v disk 1 ≡ 0
  root-unnamed = ap (times 1) all-further ∙ range-below 1 2 (length names) (omega arith)

  no-child : (b : Bool) → times 1 (cond b (0 ∷ []) []) ≡ 0
  no-child true = refl
  no-child false = refl

  root-childless : children_of v disk 1 ≡ 0
  root-childless =
      times-none (parent_of v disk) 1 (last disk) (λ k.
      ⊎_elim
      (λ (e : k ≡ 1).
      ap (λ (d : ℕ). times 1 (parent_of v disk d)) e ∙ ap (λ (n : ℕ). times 1 (filter (λ m. not (eqb m 1)) (n ∷ []))) up-root)
      (λ (other : k ≡ 1 → ⊥).
      ap (λ (n : ℕ). times 1 (filter (λ m. not (eqb m k)) (n ∷ []))) (up-other k other) ∙ no-child (not (eqb 0 k)))
      (cases_eq k 1))

  climb-none : climb (up v disk) 0 1 ≡ 1
  unfolding climb
  climb-none = refl

  pub is_one_tree : IsOneTree v disk
  is_one_tree = record {
    root = up-root;
    root_unnamed = root-unnamed;
    named = λ i live other. absurd (other (one_directory v disk ninodes names contents h i live));
    proper = λ i live other. absurd (other (one_directory v disk ninodes names contents h i live));
    reaches = λ i live.
        record { steps = (0, ap (climb (up v disk) 0) (one_directory v disk ninodes names contents h i live) ∙ climb-none) };
  }

  abbrev HasGoodCount : ℕ → Type 0
  HasGoodCount i = IsGoodCount (inode_of disk i) (names_of v disk i) (further_names_of v disk i) (children_of v disk i)

  root-count : HasGoodCount 1
  root-count = record {
    file = λ not. absurd (false≢true (sym not ∙ root_directory v disk ninodes names contents h));
    directory = λ is live. h.root.count ∙ ap (λ (n : ℕ). pos (1 + n)) (sym root-childless);
    dead = λ is not. absurd (false≢true (sym not ∙ root_live v disk ninodes names contents h));
  }

  file-count : (j : ℕ) → j < length contents → HasGoodCount (j + 2)
  file-count j l =
      let not = file_no_directory v disk ninodes names contents h j l in
      record {
        file = λ _. (h.file j l).count ∙ ap pos (sym (file-named j l));
        directory = λ is live. absurd (false≢true (sym not ∙ is));
        dead = λ is dead. absurd (false≢true (sym not ∙ is));
      }

  pub has_good_counts : HasGoodCounts v disk
  has_good_counts i node =
      ⊎_elim
      (λ (root : i ≡ 1). subst HasGoodCount (sym root) root-count)
      (λ (file : IsFile v disk ninodes names contents h i). subst HasGoodCount file.2 (file-count file.0 file.1))
      (which_node v disk ninodes names contents h i node)
