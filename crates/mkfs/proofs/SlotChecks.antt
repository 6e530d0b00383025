-- The slots of an image's root are good.
use Rattle.mkfs.proofs.Vocabulary.{Version, ◌≡◌, ◌≢◌, ℕ, zero, suc, ◌+◌, ◌<◌, true, List, [], ◌∷◌, ◌++◌, length, drop, map, replicate, get_or, Some, None, Option, refl, sym, ap, subst, ◌∙◌, arith, All, AllPairs, range_with_len, append-nil, get_or-map, length-map, All-cons, length-range_with_len, get_or-range_with_len, Dirent, Free, is_node, slots_in, slot_numbers, slot_names, AreGoodSlots, HasGoodSlots, dot, dotdot, entries_from, HasGoodNames}
use Rattle.mkfs.proofs.Basics.{all_entries, free_entries}
use Rattle.mkfs.proofs.FilesShown.{ShowsFiles}
use Rattle.mkfs.proofs.Directories.{one_directory, root_is_node, file_is_node, root_slots_in}

-- ---- what the slots give

numbers-from : (number : ℕ) (names : List (List ℕ)) (rest : List Dirent)
    → slot_numbers (map Some (entries_from number names ++ rest)) ≡ range_with_len number (length names) ++ slot_numbers (map Some rest)
numbers-from number [] rest = refl
numbers-from number (name ∷ names) rest = ap (λ (xs : List ℕ). number ∷ xs) (numbers-from (number + 1) names rest)

numbers-free : (n : ℕ) → slot_numbers (map Some (replicate n Free)) ≡ []
numbers-free zero = refl
numbers-free (suc n) = numbers-free n

names-from : (number : ℕ) (names : List (List ℕ)) (rest : List Dirent)
    → slot_names (map Some (entries_from number names ++ rest)) ≡ names ++ slot_names (map Some rest)
names-from number [] rest = refl
names-from number (name ∷ names) rest = ap (λ (xs : List (List ℕ)). name ∷ xs) (names-from (number + 1) names rest)

names-free : (n : ℕ) → slot_names (map Some (replicate n Free)) ≡ []
names-free zero = refl
names-free (suc n) = names-free n

-- past "." and ".." they give the files' numbers
pub further-numbers : (v : Version) (names : List (List ℕ)) → slot_numbers (drop 2 (map Some (all_entries v names))) ≡ range_with_len 2 (length names)
further-numbers v names =
    let free : ℕ = free_entries v (length names) in
    let numbers : List ℕ = range_with_len 2 (length names) in
    numbers-from 2 names (replicate free Free) ∙ ap (λ (xs : List ℕ). numbers ++ xs) (numbers-free free) ∙ append-nil numbers

pub all-numbers : (v : Version) (names : List (List ℕ)) → slot_numbers (map Some (all_entries v names)) ≡ 1 ∷ 1 ∷ range_with_len 2 (length names)
all-numbers v names = ap (λ (xs : List ℕ). 1 ∷ 1 ∷ xs) (further-numbers v names)

all-names : (v : Version) (names : List (List ℕ)) → slot_names (map Some (all_entries v names)) ≡ dot ∷ dotdot ∷ names
all-names v names =
    let free : ℕ = free_entries v (length names) in
    ap (λ (xs : List (List ℕ)). dot ∷ dotdot ∷ xs)
    (names-from 2 names (replicate free Free) ∙ ap (λ (xs : List (List ℕ)). names ++ xs) (names-free free) ∙ append-nil names)

-- ---- the names are apart

pairs-cons : {X : Type 0} (R : X → X → Type 0) (x : X) (xs : List X) → All (R x) xs → AllPairs R xs → AllPairs R (x ∷ xs)
pairs-cons R x xs h all zero zero d l m = absurd (omega arith)
pairs-cons R x xs h all zero (suc j) d l m = h j d (omega arith)
pairs-cons R x xs h all (suc i) zero d l m = absurd (omega arith)
pairs-cons R x xs h all (suc i) (suc j) d l m = all i j d (omega arith) (omega arith)

dot-dotdot : dot ≢ dotdot
dot-dotdot e = let lengths : length dot ≡ length dotdot = ap length e in absurd (omega arith)

names-apart : (v : Version) (names : List (List ℕ)) → HasGoodNames v names → AllPairs (λ x y. x ≢ y) (dot ∷ dotdot ∷ names)
names-apart v names h =
    let apart : List ℕ → List ℕ → Type 0 = λ x y. x ≢ y in
    pairs-cons apart dot (dotdot ∷ names) (All-cons (apart dot) dotdot names dot-dotdot (λ i d l e. (h.each i d l).1 (sym e)))
    (pairs-cons apart dotdot names (λ i d l e. (h.each i d l).2 (sym e)) h.once)

-- ---- the check

some-entry : (x : Dirent) → Some x ≢ None
some-entry x e = cc

good-slots : (v : Version) (disk : List (List ℕ)) (ninodes : ℕ) (names contents : List (List ℕ)) → ShowsFiles v disk ninodes names contents
    → AreGoodSlots (is_node disk) 1 (map Some (all_entries v names))
good-slots v disk ninodes names contents h =
    let entries : List Dirent = all_entries v names in
    let P : ℕ → Type 0 = λ n. is_node disk n ≡ true in
    let root : is_node disk 1 ≡ true = root_is_node v disk ninodes names contents h in
    let files : List ℕ = range_with_len 2 (length names) in
    let each : All P files =
    λ k d l.
    let within : k < length names = omega (arith, length-range_with_len 2 (length names)) in
    let number : k + 2 ≡ get_or files k d = (let swap : k + 2 ≡ 2 + k = omega arith in swap) ∙ sym (get_or-range_with_len 2 (length names) k d within) in
    subst P number (file_is_node v disk ninodes names contents h k (omega (arith, h.many))) in
    record {
      first = refl;
      second = refl;
      entries = λ k d l.
          let within : k < length entries = omega (arith, length-map entries Some) in
          subst (λ (slot : Option Dirent). slot ≢ None) (sym (get_or-map Some entries k Free d within)) (some-entry (get_or entries k Free));
      nodes = subst (All P) (sym (all-numbers v names)) (All-cons P 1 (1 ∷ files) root (All-cons P 1 files root each));
      names = record { apart = subst (AllPairs (λ x y. x ≢ y)) (sym (all-names v names)) (names-apart v names h.good) };
    }

pub has_good_slots : (v : Version) (disk : List (List ℕ)) (ninodes : ℕ) (names contents : List (List ℕ)) → ShowsFiles v disk ninodes names contents → HasGoodSlots v disk
has_good_slots v disk ninodes names contents h i live =
    let root = root_slots_in v disk ninodes names contents h in
    subst (λ (k : ℕ). AreGoodSlots (is_node disk) k (slots_in v disk k)) (sym (one_directory v disk ninodes names contents h i live))
    (subst (AreGoodSlots (is_node disk) 1) (sym root) (good-slots v disk ninodes names contents h))
