-- An index stays right as the slots of its directory change.
use Rattle.directory.proofs.Vocabulary.{◌≡◌, ◌≢◌, ℕ, zero, suc, ◌+◌, ◌<◌, ◌≤◌, nat_lt, if◌then◌else◌, ◌==◌, Bool, true, false, List, [], ◌∷◌, ◌++◌, length, Option, refl, sym, ap, ◌∙◌, subst, arith, ⊎_elim, cases_Bool, cases_eq, eq-eqb, ne_eqb, lt-ltb, le-ltb, ltb-true, ltb-false, Dirent, Version, dirent_len_of, dirent_of, kept, on_disk, IndexState, IndexedSlot, no_index, is_used, used_upto, slots_known, IsIndex, placed, with_slot_if, with_entry, without, cleared}
use Rattle.directory.proofs.Padded.{on_disk_kept}
use Rattle.directory.proofs.Listed.{Listed, over, passed, here, listed_upto, upto_listed, listed_low, listed_alike}

pub index_same : (v : Version) (x : IndexState) (read now : ℕ → Option Dirent) → ((s : ℕ) → now s ≡ read s) → IsIndex v x read → IsIndex v x now
index_same v x read now same right =
    let e : now ≡ read = λ i s. same s i in
    subst (λ (f : ℕ → Option Dirent). IsIndex v x f) (sym e) right

pub index_none : (v : Version) (read : ℕ → Option Dirent) → IsIndex v no_index read
unfolding IsIndex used_upto
index_none v read =
    let none : 0 ≡ slots_known v no_index = omega arith in
    (ap (used_upto read) none, omega arith)

-- if n slots are read alike
same_upto : (read now : ℕ → Option Dirent) (n : ℕ) → ((q : ℕ) → q < n → now q ≡ read q) → used_upto read n ≡ used_upto now n
unfolding used_upto
same_upto read now zero same = refl
same_upto read now (suc n) same =
    let e : read n ≡ now n = sym (same n (omega arith)) in
    ap (λ xs. xs ++ (if is_used (read n) then (n, read n) ∷ [] else [])) (same_upto read now n (λ q h. same q (omega arith)))
    ∙ ap (λ (o : Option Dirent). used_upto now n ++ (if is_used o then (n, o) ∷ [] else [])) e

-- ---- a name comes

module _ (v : Version) (read now : ℕ → Option Dirent) (e : IndexedSlot) (free : is_used (read e.place) ≡ false) (used : is_used (dirent_of v (on_disk v e.bytes)) ≡ true)
    (put : now e.place ≡ dirent_of v (on_disk v e.bytes)) (others : (q : ℕ) → q ≢ e.place → now q ≡ read q) where
  -- before all that are there
  at_front : {n : ℕ} (es : List IndexedSlot) → Listed v read (e.place + 1) n es → placed e es ≡ e ∷ es
  unfolding placed
  at_front [] l = refl
  at_front (f ∷ fs) l = rw (lt-ltb e.place f.place (omega (arith, listed_low v read l))) refl

  placed_listed : {s n : ℕ} {es : List IndexedSlot} → Listed v read s n es → s ≤ e.place → e.place < s + n → Listed v now s n (placed e es)
  unfolding placed
  placed_listed over low high = absurd (omega arith)
  placed_listed {s = s} (passed {n = n} {es = es} u l) low high =
      ⊎_elim
      (λ (q : s ≡ e.place).
      let l0 : Listed v read (e.place + 1) n es = subst (λ (i : ℕ). Listed v read (i + 1) n es) q l in
      let rest = listed_alike v read now (λ (i : ℕ) (h : s + 1 ≤ i). others i (omega arith)) l in
      subst (λ (fs : List IndexedSlot). Listed v now s (suc n) fs) (sym (at_front es l0))
      (here (ap is_used (ap now q ∙ put) ∙ used) (sym q) (sym put ∙ ap now (sym q)) rest))
      (λ (ne : s ≢ e.place). passed (ap is_used (others s ne) ∙ u) (placed_listed l (omega arith) (omega arith)))
      (cases_eq s e.place)
  placed_listed {s = s} (here {n = n} {e = f} {es = es} u p d l) low high =
      ⊎_elim
      (λ (q : s ≡ e.place). absurd (clash (sym (ap (λ (i : ℕ). is_used (read i)) q) ∙ u) free))
      (λ (ne : s ≢ e.place).
      let test : nat_lt e.place f.place ≡ false = le-ltb e.place f.place (omega arith) in
      rw test (here (ap is_used (others s ne) ∙ u) p (d ∙ sym (others s ne)) (placed_listed l (omega arith) (omega arith))))
      (cases_eq s e.place)
    where
      clash : {b : Bool} → b ≡ true → b ≡ false → ⊥
      clash t f = cc

length-placed : (e : IndexedSlot) (es : List IndexedSlot) → length (placed e es) ≡ suc (length es)
unfolding placed
length-placed e [] = refl
length-placed e (f ∷ fs) =
    ⊎_elim
    (λ (t : nat_lt e.place f.place ≡ true). rw t refl)
    (λ (n : nat_lt e.place f.place ≡ false). rw n (ap suc (length-placed e fs)))
    (cases_Bool (nat_lt e.place f.place))

pub index_entered : (v : Version) (x : IndexState) (read now : ℕ → Option Dirent) (s : ℕ) (bytes : List ℕ)
    → length bytes ≡ dirent_len_of v → IsIndex v x read → is_used (read s) ≡ false → is_used (dirent_of v bytes) ≡ true
    → now s ≡ dirent_of v bytes → ((q : ℕ) → q ≢ s → now q ≡ read q) → IsIndex v (with_entry v s bytes x) now
unfolding IsIndex with_entry
index_entered v x read now s bytes long right free used put others = by_place (nat_lt s (slots_known v x)) refl
  where
    e : IndexedSlot
    e = record { place = s; bytes = kept bytes }

    reads : dirent_of v (on_disk v e.bytes) ≡ dirent_of v bytes
    reads = ap (dirent_of v) (on_disk_kept v bytes long)

    by_room : (b : Bool) → nat_lt (length x.slots) 64 ≡ b → s < slots_known v x → IsIndex v (if b then record x { slots = placed e x.slots } else no_index) now
    by_room false t h = index_none v now
    by_room true t h = (
      upto_listed v now (slots_known v x) (placed e x.slots) (placed_listed v read now e free (ap is_used reads ∙ used) (put ∙ sym reads) others (listed_upto v read (slots_known v x) x.slots right.0) (omega arith) (omega arith)),
      omega (arith, length-placed e x.slots, ltb-true (length x.slots) 64 t),
    )

    by_place : (b : Bool) → nat_lt s (slots_known v x) ≡ b → IsIndex v (if b then with_slot_if e x else x) now
    by_place false t = (
      right.0 ∙ same_upto read now (slots_known v x) (λ q h. others q (omega (arith, ltb-false s (slots_known v x) t))),
      right.1,
    )
    by_place true t = by_room (nat_lt (length x.slots) 64) refl (ltb-true s (slots_known v x) t)

-- ---- a name goes

module _ (v : Version) (read now : ℕ → Option Dirent) (p : ℕ) (free : is_used (now p) ≡ false) (others : (q : ℕ) → q ≢ p → now q ≡ read q) where
  without_listed : {s n : ℕ} {es : List IndexedSlot} → Listed v read s n es → Listed v now s n (without p es)
  unfolding without
  without_listed over = over
  without_listed {s = s} (passed u l) =
      ⊎_elim
      (λ (q : s ≡ p). passed (ap (λ (i : ℕ). is_used (now i)) q ∙ free) (without_listed l))
      (λ (ne : s ≢ p). passed (ap is_used (others s ne) ∙ u) (without_listed l))
      (cases_eq s p)
  without_listed {s = s} (here {n = n} {e = e} {es = es} u at d l) =
      ⊎_elim
      (λ (q : s ≡ p).
      rw (eq-eqb e.place p (at ∙ q)) (passed (ap (λ (i : ℕ). is_used (now i)) q ∙ free) (listed_alike v read now (λ (i : ℕ) (h : s + 1 ≤ i). others i (omega arith)) l)))
      (λ (ne : s ≢ p).
      rw (ne_eqb e.place p (λ (i : e.place ≡ p). ne (sym at ∙ i))) (here (ap is_used (others s ne) ∙ u) at (d ∙ sym (others s ne)) (without_listed l)))
      (cases_eq s p)

length-without : (p : ℕ) (es : List IndexedSlot) → length (without p es) ≤ length es
unfolding without
length-without p [] = omega arith
length-without p (e ∷ es) =
    ⊎_elim
    (λ (t : (e.place == p) ≡ true). rw t (omega arith))
    (λ (n : (e.place == p) ≡ false). rw n (omega (arith, length-without p es)))
    (cases_Bool (e.place == p))

pub index_cleared : (v : Version) (x : IndexState) (read now : ℕ → Option Dirent) (s : ℕ) → IsIndex v x read → is_used (now s) ≡ false → ((q : ℕ) → q ≢ s → now q ≡ read q) → IsIndex v (cleared s x) now
unfolding IsIndex cleared
index_cleared v x read now s right free others = (
  upto_listed v now (slots_known v x) (without s x.slots) (without_listed v read now s free others (listed_upto v read (slots_known v x) x.slots right.0)),
  omega (arith, length-without s x.slots, right.1),
)
