-- What an index has of what is sought.
use Rattle.directory.proofs.Vocabulary.{◌≡◌, ◌≢◌, ℕ, suc, ◌+◌, ◌<◌, ◌≤◌, min, nat_le, nat_lt, if◌then◌else◌, ◌&&◌, ◌==◌, Bool, true, false, List, [], ◌∷◌, length, take, find, Option, Some, None, Version, refl, sym, ap, ◌∙◌, subst, arith, ⊎_elim, cases_eq, cases_lt, eq-eqb, ne_eqb, lt-ltb, le-ltb, and_parts, and_right, take_all, zero-add, option_map, Dinode, Dirent, Free, Used, dirent_of, on_disk, IndexState, IndexedSlot, is_named, is_used, is_free, IsIndex, found_as, first_gap, first_of, first_that, free_below, slots_known, Found, Aim, Named, Unused, Entry, slot_count, is_sought, number_of, u16_at, u16_at-part, dirent_len_of, in_range}
use Rattle.directory.proofs.EntryNumbers.{some_number}
use Rattle.directory.proofs.FoundInBlocks.{IsBetween, behind_none}
use Rattle.directory.proofs.Listed.{Listed, over, passed, here, listed_upto, listed_low}

-- ---- names, and slots past the first two

-- the number that a kept slot begins with
number_on_disk : (v : Version) (bytes : List ℕ) → u16_at bytes 0 ≡ u16_at (on_disk v bytes) 0
number_on_disk v bytes = sym (u16_at-part bytes 0 (dirent_len_of v) 0 (omega (arith, (in_range v).2)))

module _ (v : Version) (aim : Aim) (slots : ℕ → Option Dirent) (pick : IndexedSlot → Bool)
    (same : (e : IndexedSlot) → dirent_of v (on_disk v e.bytes) ≡ slots e.place → is_used (slots e.place) ≡ true → pick e ≡ is_sought aim e.place (slots e.place))
    (unused : (s : ℕ) → is_used (slots s) ≡ false → is_sought aim s (slots s) ≡ false) where
  -- slot s isn't sought, and those after it are as this says
  step_on : (s n : ℕ) (o : Option Found) → is_sought aim s (slots s) ≡ false → IsBetween aim slots (s + 1) (s + 1 + n) o → IsBetween aim slots s (s + suc n) o
  step_on s n o none rest =
      let e : s + 1 + n ≡ s + suc n = omega arith in
      behind_none aim slots s (s + 1) (s + suc n) o (omega arith) (omega arith)
      (λ q a b. let f : s ≡ q = omega arith in subst (λ (i : ℕ). is_sought aim i (slots i) ≡ false) f none)
      (subst (λ (i : ℕ). IsBetween aim slots (s + 1) i o) e rest)

  at_slot : (s n : ℕ) (e : IndexedSlot) (b : Bool) (behind : Option IndexedSlot) → e.place ≡ s → dirent_of v (on_disk v e.bytes) ≡ slots s → is_used (slots s) ≡ true → pick e ≡ b
      → IsBetween aim slots (s + 1) (s + 1 + n) (option_map found_as behind) → IsBetween aim slots s (s + suc n) (option_map found_as (if b then Some e else behind))
  at_slot s n e false behind at d u t rest =
      let d0 : dirent_of v (on_disk v e.bytes) ≡ slots e.place = d ∙ ap slots (sym at) in
      let u0 : is_used (slots e.place) ≡ true = ap (λ (i : ℕ). is_used (slots i)) at ∙ u in
      let none : is_sought aim e.place (slots e.place) ≡ false = sym (same e d0 u0) ∙ t in
      step_on s n (option_map found_as behind) (subst (λ (i : ℕ). is_sought aim i (slots i) ≡ false) at none) rest
  at_slot s n e true behind at d u t rest =
      let d0 : dirent_of v (on_disk v e.bytes) ≡ slots e.place = d ∙ ap slots (sym at) in
      let u0 : is_used (slots e.place) ≡ true = ap (λ (i : ℕ). is_used (slots i)) at ∙ u in
      let is : is_sought aim e.place (slots e.place) ≡ true = sym (same e d0 u0) ∙ t in (
        omega arith,
        omega arith,
        is,
        number_on_disk v e.bytes ∙ some_number v (on_disk v e.bytes) aim e.place (slots e.place) d0 is,
        λ q a b. absurd (omega arith),
      )

  index_finds : {s n : ℕ} {es : List IndexedSlot} → Listed v slots s n es → IsBetween aim slots s (s + n) (option_map found_as (find pick es))
  index_finds over = λ q a b. absurd (omega arith)
  index_finds {s = s} (passed {n = n} {es = es} u l) = step_on s n (option_map found_as (find pick es)) (unused s u) (index_finds l)
  index_finds {s = s} (here {n = n} {e = e} {es = es} u at d l) = at_slot s n e (pick e) (find pick es) at d u refl (index_finds l)

-- ---- free slots

-- the slots from s up to g are used, and g isn't, if it is one of the n
record Gap (slots : ℕ → Option Dirent) (s n g : ℕ) : Type 0 where
  low : s ≤ g
  high : g ≤ s + n
  below : (q : ℕ) → s ≤ q → q < g → is_used (slots q) ≡ true
  free : g < s + n → is_used (slots g) ≡ false

module _ (v : Version) (slots : ℕ → Option Dirent) where
  gap_at : (s : ℕ) {n : ℕ} (es : List IndexedSlot) → Listed v slots (s + 1) n es → first_gap s es ≡ s
  unfolding first_gap
  gap_at s [] l = refl
  gap_at s (e ∷ es) l = rw (ne_eqb e.place s (λ h. omega (arith, listed_low v slots l))) refl

  gap_found : {s n : ℕ} {es : List IndexedSlot} → Listed v slots s n es → Gap slots s n (first_gap s es)
  unfolding first_gap
  gap_found {s = s} over = record { low = omega arith; high = omega arith; below = λ q a b. absurd (omega arith); free = λ h. absurd (omega arith) }
  gap_found {s = s} (passed {n = n} {es = es} u l) =
      subst (λ (g : ℕ). Gap slots s (suc n) g) (sym (gap_at s es l))
      (record { low = omega arith; high = omega arith; below = λ q a b. absurd (omega arith); free = λ h. u })
  gap_found {s = s} (here {n = n} {e = e} {es = es} u at d l) =
      let g = gap_found l in
      rw (eq-eqb e.place s at)
      (record {
        low = omega (arith, g.low);
        high = omega (arith, g.high);
        below = λ q a b.
            ⊎_elim
            (λ (h : s ≡ q). subst (λ (i : ℕ). is_used (slots i) ≡ true) h u)
            (λ (h : s ≢ q). g.below q (omega arith) b)
            (cases_eq s q);
        free = λ h. g.free (omega arith);
      })

pub gap_few : (s : ℕ) (es : List IndexedSlot) → first_gap s es ≤ s + length es
unfolding first_gap
gap_few s [] = omega arith
gap_few s (e ∷ es) = by_test (e.place == s) (gap_few (s + 1) es)
  where
    by_test : (b : Bool) → first_gap (s + 1) es ≤ s + 1 + length es → (if b then first_gap (s + 1) es else s) ≤ s + suc (length es)
    by_test true h = omega arith
    by_test false h = omega arith

-- ---- the first of what is sought

named_used : (name : List ℕ) (o : Option Dirent) → is_named name o ≡ true → is_used o ≡ true
named_used name None h = cc
named_used name (Some Free) h = cc
named_used name (Some (Used n other)) h = refl

unused_unnamed : (name : List ℕ) (o : Option Dirent) → is_used o ≡ false → is_named name o ≡ false
unused_unnamed name None h = refl
unused_unnamed name (Some Free) h = refl
unused_unnamed name (Some (Used n other)) h = cc

used_not_free : (o : Option Dirent) → is_used o ≡ true → is_free o ≡ false
used_not_free None h = refl
used_not_free (Some Free) h = cc
used_not_free (Some (Used n other)) h = refl

unused_free : (o : Option Dirent) → is_used o ≡ false → o ≢ None → is_free o ≡ true
unused_free None h some = absurd (some refl)
unused_free (Some Free) h some = refl
unused_free (Some (Used n other)) h some = cc

free_number : (o : Option Dirent) → is_free o ≡ true → 0 ≡ number_of o
free_number None h = refl
free_number (Some Free) h = refl
free_number (Some (Used n other)) h = cc

and_true : (a b : Bool) → b ≡ true → a ≡ (a && b)
and_true true b h = sym h
and_true false b h = refl

-- all of them are before mid
narrow : (aim : Aim) (slots : ℕ → Option Dirent) (lo mid hi : ℕ) (o : Option Found) → mid ≤ hi
    → ((s : ℕ) → s < hi → is_sought aim s (slots s) ≡ true → s < mid) → IsBetween aim slots lo hi o → IsBetween aim slots lo mid o
narrow aim slots lo mid hi None h before f = λ s a b. f s a (omega arith)
narrow aim slots lo mid hi (Some f) h before g = (g.0, before f.slot g.1 g.2, g.2, g.3, g.4)

module _ (v : Version) (d : Dinode) (x : IndexState) (slots : ℕ → Option Dirent) (right : IsIndex v x slots) (entries : (s : ℕ) → s < slot_count v d → slots s ≢ None)
    (beyond : (s : ℕ) → slot_count v d ≤ s → is_used (slots s) ≡ false) where
  abbrev known : ℕ
  known = min (slots_known v x) (slot_count v d)

  listed : Listed v slots 0 (slots_known v x) x.slots
  unfolding IsIndex
  listed = listed_upto v slots (slots_known v x) x.slots right.0

  used_few : (s : ℕ) → is_used (slots s) ≡ true → s < slot_count v d
  used_few s u =
      ⊎_elim
      (λ (h : s < slot_count v d). h)
      (λ (h : slot_count v d ≤ s). let e = beyond s h in absurd (cc))
      (cases_lt s (slot_count v d))

  by_test : (aim : Aim) (test : IndexedSlot → Bool)
      → ((e : IndexedSlot) → dirent_of v (on_disk v e.bytes) ≡ slots e.place → is_used (slots e.place) ≡ true → test e ≡ is_sought aim e.place (slots e.place))
      → ((s : ℕ) → is_used (slots s) ≡ false → is_sought aim s (slots s) ≡ false)
      → ((s : ℕ) → is_sought aim s (slots s) ≡ true → is_used (slots s) ≡ true)
      → IsBetween aim slots 0 known (first_that test (slot_count v d) x.slots)
  by_test aim test same unused used =
      let pick : IndexedSlot → Bool = λ e. nat_lt e.place (slot_count v d) && test e in
      let picks : (e : IndexedSlot) → dirent_of v (on_disk v e.bytes) ≡ slots e.place → is_used (slots e.place) ≡ true → pick e ≡ is_sought aim e.place (slots e.place) =
      λ e h u. ap (λ b. b && test e) (lt-ltb e.place (slot_count v d) (used_few e.place u)) ∙ same e h u in
      let all = subst (λ (i : ℕ). IsBetween aim slots 0 i (first_that test (slot_count v d) x.slots)) (zero-add (slots_known v x)) (index_finds v aim slots pick picks unused listed) in
      narrow aim slots 0 known (slots_known v x) (first_that test (slot_count v d) x.slots) (omega arith)
      (λ s h is. omega (arith, used_few s (used s is))) all

  free_found : (g : ℕ) → Gap slots 0 (slots_known v x) g → IsBetween Unused slots 0 known (free_below known g)
  free_found g gap =
      ⊎_elim
      (λ (h : g < known).
      let free : is_free (slots g) ≡ true = unused_free (slots g) (gap.free (omega arith)) (entries g (omega arith)) in
      rw (lt-ltb g known h) ((omega arith, h, free, free_number (slots g) free, λ s a b. used_not_free (slots s) (gap.below s a b))))
      (λ (h : known ≤ g). rw (le-ltb g known h) (λ s a b. used_not_free (slots s) (gap.below s a (omega arith))))
      (cases_lt g known)

  pub first_of_right : (aim : Aim) → IsBetween aim slots 0 (min (slots_known v x) (slot_count v d)) (first_of v aim d x)
  unfolding IsIndex first_of
  first_of_right (Named name) =
      by_test (Named name) (λ e. is_named name (dirent_of v (on_disk v e.bytes))) (λ e h u. ap (is_named name) h) (λ s u. unused_unnamed name (slots s) u)
      (λ s h. named_used name (slots s) h)
  first_of_right Unused =
      let all : take 64 x.slots ≡ x.slots = take_all 64 x.slots right.1 in
      rw all (free_found (first_gap 0 x.slots) (gap_found v slots listed))
  first_of_right Entry =
      by_test Entry (λ e. nat_le 2 e.place) (λ e h u. and_true (nat_le 2 e.place) (is_used (slots e.place)) u)
      (λ s u. and_right (nat_le 2 s) (is_used (slots s)) u) (λ s h. (and_parts (nat_le 2 s) (is_used (slots s)) h).1)

-- ---- if none is free

pub none_free : (limit s : ℕ) → free_below limit s ≡ None → limit ≤ s
none_free limit s h =
    ⊎_elim
    (λ (l : s < limit). let e : nat_lt s limit ≡ true = lt-ltb s limit l in let h0 = rw e at h in absurd (cc))
    (λ (l : limit ≤ s). l)
    (cases_lt s limit)
