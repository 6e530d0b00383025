-- No slot of a live directory names a node that has no name.
use Rattle.image_tree.proofs.Vocabulary.{Version, ◌≡◌, ◌≢◌, inl, inr, ℕ, zero, suc, ◌+◌, ◌<◌, ◌≤◌, ◌==◌, nat_lt, true, false, pos, if◌then◌else◌, List, [], ◌∷◌, length, drop, get_or, Option, Some, None, refl, sym, ◌∙◌, ap, arith, All, cases_eq, eq-eqb, ne_eqb, false≢true, nat_tests, sum_by-cons, sum_by-append, Dirent, Free, Used, gathered, times, inode_of, is_directory, is_live, is_positive, is_node, is_live_directory, last, slots_in, slot_numbers, number_in, named_in, further_in, up, climb, names_of, HasGoodSlots, HasGoodCounts, IsOneTree, IsDotDot, dot}
use Rattle.image_tree.proofs.Nodes.{directory_is}
use Rattle.image_tree.proofs.LinkLemmas.{up_none}
use Rattle.image_tree.proofs.TreeLemmas.{up_zero}
use Rattle.image_tree.proofs.Contents.{pick}

-- how much a number adds to the count of i in a list
abbrev hits : ℕ → ℕ → ℕ
hits i x = if x == i then 1 else 0

pub times_more : (i : ℕ) (f : ℕ → List ℕ) (n : ℕ) → times i (gathered f (suc n)) ≡ times i (gathered f n) + times i (f (suc n))
unfolding gathered
times_more i f n = sum_by-append (hits i) (gathered f n) (f (suc n))

-- a number that is never gathered is in none of the lists
none_gathered : (f : ℕ → List ℕ) (i n k : ℕ) → times i (gathered f n) ≡ 0 → 1 ≤ k → k ≤ n → times i (f k) ≡ 0
none_gathered f i zero k none low high = absurd (omega (arith, low, high))
none_gathered f i (suc n) k none low high = elim (cases_eq k (suc n)) [
  | inl e ↦ let more = times_more i f n in let here : times i (f k) ≡ times i (f (suc n)) = ap (λ (j : ℕ). times i (f j)) e in omega (arith, more, none, here)
  | inr ne ↦ none_gathered f i n k (let more = times_more i f n in omega (arith, more, none)) low (omega (arith, high, ne))
]

times_cons : (i x : ℕ) (xs : List ℕ) → times i (x ∷ xs) ≡ hits i x + times i xs
times_cons i x xs = sum_by-cons (hits i) x xs

-- so each of their numbers is another one
others_only : (i : ℕ) (xs : List ℕ) → times i xs ≡ 0 → All (λ n. n ≢ i) xs
others_only i [] none = λ k d l. absurd (omega (arith, l))
others_only i (x ∷ xs) none =
    let more = times_cons i x xs in
    λ k d l.
    elim (cases_eq x i) [
      | inl e ↦
          let one : hits i x ≡ 1 = rw (eq-eqb x i e) refl in
          absurd (omega (arith, more, none, one))
      | inr ne ↦ at k d l ne (others_only i xs (omega (arith, more, none)))
    ]
  where
    at : (k d : ℕ) → k < suc (length xs) → x ≢ i → All (λ n. n ≢ i) xs → get_or (x ∷ xs) k d ≢ i
    at zero d l ne rest = ne
    at (suc k) d l ne rest = rest k d (omega (arith, l))

no_hit : (x i : ℕ) → x ≢ i → hits i x ≡ 0
no_hit x i ne = rw (ne_eqb x i ne) refl

-- a number other than the first two is named by the rest of the slots as often as by all
pub further_same : (slots : List (Option Dirent)) (d i : ℕ) → get_or slots 0 None ≡ Some (Used d dot) → IsDotDot (get_or slots 1 None) → d ≢ i → number_in (get_or slots 1 None) ≢ i
    → times i (slot_numbers slots) ≡ times i (slot_numbers (drop 2 slots))
further_same [] d i first second self above = absurd second
further_same (a ∷ []) d i first second self above = absurd second
further_same (a ∷ None ∷ slots) d i first second self above = absurd second
further_same (a ∷ Some Free ∷ slots) d i first second self above = absurd second
further_same (a ∷ Some (Used number name) ∷ slots) d i first second self above =
    ap (λ (s : Option Dirent). times i (slot_numbers (s ∷ Some (Used number name) ∷ slots))) first
    ∙ omega (arith, times_cons i d (number ∷ slot_numbers slots), times_cons i number (slot_numbers slots), no_hit d i self, no_hit number i above)

module _ (v : Version) (d : List (List ℕ)) (i : ℕ) (node : is_node d i ≡ true) (dead : is_live (inode_of d i) ≡ false) (slots : HasGoodSlots v d) (tree : IsOneTree v d) (counts : HasGoodCounts v d) where
  pub no_directory : is_live_directory d i ≡ false
  no_directory = pick (is_live_directory d i) (λ t. is_live_directory d i ≡ t → t ≡ false)
      (λ _ is. absurd (false≢true (sym dead ∙ (directory_is d i is).live))) (λ _ _. refl) refl

  up_here : up v d i ≡ 0
  up_here = up_none v d i no_directory

  -- the root has a name
  pub no_root : 1 ≢ i
  no_root e = let r = tree.root in let z : up v d 1 ≡ 0 = ap (up v d) e ∙ up_here in omega (arith, r, z)

  climb_zero : (n : ℕ) → climb (up v d) n 0 ≡ 0
  unfolding climb
  climb_zero zero = refl
  climb_zero (suc n) = ap (climb (up v d) n) (up_zero v d) ∙ climb_zero n

  never : (n j : ℕ) → climb (up v d) n j ≡ 1 → up v d j ≢ i
  unfolding climb
  never zero j there is = no_root (sym tree.root ∙ ap (up v d) (sym there) ∙ is)
  never (suc zero) j there is = no_root (sym there ∙ is)
  never (suc (suc n)) j there is =
      let z : climb (up v d) n (up v d (up v d j)) ≡ 0 = ap (climb (up v d) n) (ap (up v d) is ∙ up_here) ∙ climb_zero n in
      absurd (omega (arith, z, there))

  other_self : (j : ℕ) → is_live_directory d j ≡ true → j ≢ i
  other_self j is e = false≢true (sym no_directory ∙ ap (is_live_directory d) (sym e) ∙ is)

  no_count : (n : ℕ) → (inode_of d i).nlink ≡ pos n → n ≡ 0
  no_count n e = let z : nat_lt 0 n ≡ false = sym (ap is_positive e) ∙ dead in grind (arith, nat_tests)

  not_named : (j : ℕ) → is_live_directory d j ≡ true → times i (named_in v d j) ≡ 0
  not_named j is =
      let range = directory_is d j is in
      let good = slots j is in
      let reach = (tree.reaches j is).steps in
      let counted = counts i node in
      let high : j ≤ last d = (let b = range.bound in omega (arith, b)) in
      pick (is_directory (inode_of d i)) (λ t. is_directory (inode_of d i) ≡ t → times i (named_in v d j) ≡ 0)
      (λ _ it.
      further_same (slots_in v d j) j i good.first good.second (other_self j is) (never reach.0 j reach.1)
      ∙ none_gathered (further_in v d) i (last d) j (counted.dead it dead) range.low high)
      (λ _ isnt. none_gathered (named_in v d) i (last d) j (no_count (names_of v d i) (counted.file isnt)) range.low high) refl

  pub unnamed : (j : ℕ) → is_live_directory d j ≡ true → All (λ n. n ≢ i) (named_in v d j)
  unnamed j is = others_only i (named_in v d j) (not_named j is)
