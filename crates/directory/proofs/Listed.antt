-- The used ones of a directory's slots, one after the other.
use Rattle.directory.proofs.Vocabulary.{◌≡◌, ℕ, zero, suc, ◌+◌, ◌<◌, ◌≤◌, if◌then◌else◌, Bool, true, false, List, [], ◌∷◌, ◌++◌, map, Option, refl, sym, ap, ◌∙◌, subst, arith, append_assoc, append-nil, add-zero, zero-add, Dirent, Version, dirent_of, IndexedSlot, on_disk, is_used, used_upto, as_read}

-- by the slot s and a count: these are the used ones of that count of slots from s on
pub data Listed (v : Version) (read : ℕ → Option Dirent) : ℕ → ℕ → List IndexedSlot → Type 0 where
  over : {s : ℕ} → Listed v read s zero []
  passed : {s n : ℕ} {es : List IndexedSlot} → is_used (read s) ≡ false → Listed v read (s + 1) n es → Listed v read s (suc n) es
  here : {s n : ℕ} {e : IndexedSlot} {es : List IndexedSlot} → is_used (read s) ≡ true → e.place ≡ s → dirent_of v (on_disk v e.bytes) ≡ read s
      → Listed v read (s + 1) n es → Listed v read s (suc n) (e ∷ es)

module _ (v : Version) (read : ℕ → Option Dirent) where
  abbrev used_at : ℕ → List (ℕ × Option Dirent)
  used_at s = if is_used (read s) then (s, read s) ∷ [] else []

  abbrev used_from : (s n : ℕ) → List (ℕ × Option Dirent)
  used_from s zero = []
  used_from s (suc n) = used_at s ++ used_from (s + 1) n

  from_last : (n s : ℕ) → used_from s (suc n) ≡ used_from s n ++ used_at (s + n)
  from_last zero s = append-nil (used_at s) ∙ ap used_at (sym (add-zero s))
  from_last (suc n) s =
      let e : s + 1 + n ≡ s + suc n = omega arith in
      ap (λ xs. used_at s ++ xs) (from_last n (s + 1)) ∙ sym (append_assoc (used_at s) (used_from (s + 1) n) (used_at (s + 1 + n)))
      ∙ ap (λ q. (used_at s ++ used_from (s + 1) n) ++ used_at q) e

  upto_from : (n : ℕ) → used_upto read n ≡ used_from 0 n
  unfolding used_upto
  upto_from zero = refl
  upto_from (suc n) =
      ap (λ xs. xs ++ used_at n) (upto_from n) ∙ ap (λ q. used_from 0 n ++ used_at q) (sym (zero-add n)) ∙ sym (from_last n 0)

  listed_reads : {s n : ℕ} {es : List IndexedSlot} → Listed v read s n es → map (as_read v) es ≡ used_from s n
  listed_reads over = refl
  listed_reads (passed u l) = rw u (listed_reads l)
  listed_reads {s = s} (here u p d l) = rw (u, p, d) (ap (λ xs. (s, read s) ∷ xs) (listed_reads l))

  reads_listed : (n s : ℕ) (es : List IndexedSlot) → map (as_read v) es ≡ used_from s n → Listed v read s n es
  reads_listed zero s [] h = over
  reads_listed zero s (e ∷ es) h = absurd (cc)
  reads_listed (suc n) s es h = by_test (is_used (read s)) es (λ fs k. reads_listed n (s + 1) fs k) refl h
    where
      by_test : (b : Bool) (fs : List IndexedSlot) → ((gs : List IndexedSlot) → map (as_read v) gs ≡ used_from (s + 1) n → Listed v read (s + 1) n gs) → is_used (read s) ≡ b
          → map (as_read v) fs ≡ (if b then (s, read s) ∷ [] else []) ++ used_from (s + 1) n → Listed v read s (suc n) fs
      by_test false fs behind u k = passed u (behind fs k)
      by_test true [] behind u k = absurd (cc)
      by_test true (f ∷ fs) behind u k =
          let first : as_read v f ≡ (s, read s) = cc in
          let rest : map (as_read v) fs ≡ used_from (s + 1) n = cc in
          here u (ap (λ (r : ℕ × Option Dirent). r.0) first) (ap (λ (r : ℕ × Option Dirent). r.1) first) (behind fs rest)

  -- an index that is right has the used ones of its slots
  pub listed_upto : (n : ℕ) (es : List IndexedSlot) → map (as_read v) es ≡ used_upto read n → Listed v read 0 n es
  listed_upto n es h = reads_listed n 0 es (h ∙ upto_from n)

  pub upto_listed : (n : ℕ) (es : List IndexedSlot) → Listed v read 0 n es → map (as_read v) es ≡ used_upto read n
  upto_listed n es l = listed_reads l ∙ sym (upto_from n)

  -- none of the slots before s is among them
  pub listed_low : {s n : ℕ} {e : IndexedSlot} {es : List IndexedSlot} → Listed v read s n (e ∷ es) → s ≤ e.place
  listed_low (passed u l) = omega (arith, listed_low l)
  listed_low (here u p d l) = omega arith

  -- n slots, and m after them
  pub listed_joined : {s n m at : ℕ} {es fs : List IndexedSlot} (k : ℕ) → Listed v read s n es → at ≡ s + n → Listed v read at m fs → k ≡ n + m → Listed v read s k (es ++ fs)
  listed_joined {s = s} {m = m} {fs = fs} k over a rest e =
      let q : m ≡ k = omega arith in
      let p = subst (λ (i : ℕ). Listed v read i m fs) (a ∙ add-zero s) rest in
      subst (λ (i : ℕ). Listed v read s i fs) q p
  listed_joined {s = s} {m = m} {fs = fs} k (passed {n = n} {es = es} u l) a rest e =
      let q : suc (n + m) ≡ k = omega arith in
      subst (λ (i : ℕ). Listed v read s i (es ++ fs)) q (passed u (listed_joined (n + m) l (omega arith) rest refl))
  listed_joined {s = s} {m = m} {fs = fs} k (here {n = n} {e = f} {es = es} u p d l) a rest e =
      let q : suc (n + m) ≡ k = omega arith in
      subst (λ (i : ℕ). Listed v read s i (f ∷ (es ++ fs))) q (here u p d (listed_joined (n + m) l (omega arith) rest refl))

  -- if none is used
  pub listed_none : (m s : ℕ) → ((q : ℕ) → s ≤ q → q < s + m → is_used (read q) ≡ false) → Listed v read s m []
  listed_none zero s none = over
  listed_none (suc m) s none = passed (none s (omega arith) (omega arith)) (listed_none m (s + 1) (λ q l h. none q (omega arith) (omega arith)))

-- if the slots are read alike
pub listed_alike : (v : Version) (read now : ℕ → Option Dirent) {s n : ℕ} {es : List IndexedSlot} → ((q : ℕ) → s ≤ q → now q ≡ read q) → Listed v read s n es → Listed v now s n es
listed_alike v read now same over = over
listed_alike v read now {s = s} same (passed u l) = passed (ap is_used (same s (omega arith)) ∙ u) (listed_alike v read now (λ q h. same q (omega arith)) l)
listed_alike v read now {s = s} same (here u p d l) =
    here (ap is_used (same s (omega arith)) ∙ u) p (d ∙ sym (same s (omega arith))) (listed_alike v read now (λ q h. same q (omega arith)) l)
