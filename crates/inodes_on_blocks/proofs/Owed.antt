-- A reference in hand is one that the tables don't have.
use Rattle.inodes_on_blocks.proofs.Vocabulary.{◌≡◌, inl, inr, ℕ, zero, suc, ◌+◌, ◌<◌, ◌≤◌, ◌==◌, Bool, true, false, cond, List, [], ◌∷◌, length, Option, Some, None, refl, sym, ◌∙◌, ap, subst, arith, slice_get, count_by, same_Some, slice_get_within, sum_by-cons, hart_count, sum_below, one_if, same_or, eq_not, eq_self, one_yes, one_no, FilePlace, TablesState, owed, references_of, is_file_of, is_directory_of, Entry, Inv, Spares, number_is, place_with, is_taken, Loaded}
use Rattle.fs_machine.specs.declared.desk.Desk as cards
use Rattle.inode_machine.specs.World.{World}
use Rattle.inodes_on_blocks.specs.ShownTables as tables

-- ---- sums

-- the first term first
pub sum_front : (n : ℕ) (f : ℕ → ℕ) → sum_below (suc n) f ≡ f 0 + sum_below n (λ k. f (suc k))
unfolding sum_below
sum_front zero f = omega arith
sum_front (suc n) f = let ih = sum_front n f in omega (arith, ih)

pub one_cond : (b : Bool) → cond b 1 0 ≡ one_if b
one_cond true = sym (one_yes true refl)
one_cond false = sym (one_no false refl)

count_sum : {X : Type 0} (p : X → Bool) (xs : List X) (f : ℕ → ℕ) → ((k : ℕ) (x : X) → slice_get xs k ≡ Some x → one_if (p x) ≡ f k) → count_by p xs ≡ sum_below (length xs) f
unfolding sum_below
count_sum p [] f same = refl
count_sum {X} p (x ∷ xs) f same =
    let ih = count_sum p xs (λ k. f (suc k)) (λ k y at. same (suc k) y at) in
    let a = sum_by-cons (λ (y : X). cond (p y) 1 0) x xs in
    let b = one_cond (p x) in
    let c = same 0 x refl in
    let d = sum_front (length xs) f in
    omega (arith, ih, a, b, c, d)

sum_less : (n : ℕ) (f g : ℕ → ℕ) → ((k : ℕ) → k < n → f k ≤ g k) → sum_below n f ≤ sum_below n g
unfolding sum_below
sum_less zero f g each = omega arith
sum_less (suc n) f g each = let ih = sum_less n f g (λ k l. each k (omega (arith, l))) in let top = each n (omega arith) in omega (arith, ih, top)

sum_fewer : (n h : ℕ) (f g : ℕ → ℕ) → h < n → f h < g h → ((k : ℕ) → k < n → f k ≤ g k) → sum_below n f < sum_below n g
unfolding sum_below
sum_fewer zero h f g lt less each = absurd (omega (arith, lt))
sum_fewer (suc n) h f g lt less each = elim (same_or h n) [
  | inl e ↦
      let rest = sum_less n f g (λ k l. each k (omega (arith, l))) in
      let top : f n < g n = subst (λ (z : ℕ). f z < g z) e less in
      omega (arith, rest, top)
  | inr ne ↦ let ih = sum_fewer n h f g (omega (arith, lt, ne)) less (λ k l. each k (omega (arith, l))) in let top = each n (omega arith) in omega (arith, ih, top)
]

-- ---- what the tables have

module _ (n : ℕ) (t : TablesState) (w : World) (load : ℕ → Option Loaded) (shows : tables.Shows t w load) (inv : Inv w) where
  file_at : (o : Option Entry) (b : Bool) → one_if (is_file_of n (place_with b o)) ≡ number_is o n
  file_at (Some e) b = refl
  file_at None true = one_no false refl
  file_at None false = one_no false refl

  files_owe : count_by (is_file_of n) t.files ≡ w.slots n
  files_owe =
      count_sum (is_file_of n) t.files (λ k. number_is (w.files k) n)
      (λ k x there. ap (λ (y : FilePlace). one_if (is_file_of n y)) (same_Some x _ (sym there ∙ shows.files k (subst (λ (m : ℕ). k < m) shows.sound.files (slice_get_within t.files k x there)))) ∙ file_at (w.files k) (is_taken w.desks k))
      ∙ ap (λ (m : ℕ). sum_below m (λ k. number_is (w.files k) n)) shows.sound.files ∙ sym (inv.tied.slots n)

  desks_owe : count_by (is_directory_of n) t.desks ≡ sum_below hart_count (λ g. one_if ((w.desks g).directory == n))
  desks_owe =
      count_sum (is_directory_of n) t.desks (λ g. one_if ((w.desks g).directory == n))
      (λ k x there. let d = shows.desks k (subst (λ (m : ℕ). k < m) shows.sound.desks (slice_get_within t.desks k x there)) in ap (λ (z : ℕ). one_if (z == n)) (ap (λ (y : cards.Desk). y.directory) (same_Some x d.0 (sym there ∙ d.1)) ∙ d.2.directory))
      ∙ ap (λ (m : ℕ). sum_below m (λ g. one_if ((w.desks g).directory == n))) shows.sound.desks

  -- a hart refers to its directory
  each_owed : (g : ℕ) → g < hart_count → one_if ((w.desks g).directory == n) ≤ (w.harts g).refs n
  each_owed g lg = elim (same_or (w.desks g).directory n) [
    | inl e ↦ let o = one_yes ((w.desks g).directory == n) (ap (λ (z : ℕ). z == n) e ∙ eq_self n) in let p = (inv.refers g lg).home in let q : (w.harts g).refs (w.desks g).directory ≡ (w.harts g).refs n = ap (w.harts g).refs e in omega (arith, o, p, q)
    | inr ne ↦ let o = one_no ((w.desks g).directory == n) (eq_not (w.desks g).directory n ne) in omega (arith, o)
  ]

  -- all that the tables have is counted
  pub all_owed : owed n t ≤ references_of n t
  all_owed =
      let a = files_owe in
      let b = desks_owe in
      let c = inv.counts n in
      let d = shows.places.counts n in
      let less = sum_less hart_count (λ g. one_if ((w.desks g).directory == n)) (λ g. (w.harts g).refs n) each_owed in
      omega (arith, a, b, c, d, less)

  pub fewer_owed : (h : ℕ) → h < hart_count → Spares h n w → owed n t < references_of n t
  fewer_owed h lt has =
      let a = files_owe in
      let b = desks_owe in
      let c = inv.counts n in
      let d = shows.places.counts n in
      let less = sum_fewer hart_count h (λ g. one_if ((w.desks g).directory == n)) (λ g. (w.harts g).refs n) lt has each_owed in
      omega (arith, a, b, c, d, less)
