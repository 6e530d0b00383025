-- What the tables count of an inode: one for each open file, and what each hart has.
use Rattle.run_laws.proofs.Vocabulary.{◌≡◌, ◌≢◌, ℕ, suc, ◌+◌, ◌<◌, ◌==◌, Bool, true, false, cond, List, [], ◌∷◌, length, Option, Some, None, refl, sym, ◌∙◌, ap, subst, arith, slice_get, count_by, same_Some, slice_get_within, sum_by-cons, Loaded, hart_count, sum_below, one_if, none_any, one_no, sum_same, FilePlace, Taken, TablesState, owed, references_of, is_file_of, is_directory_of, file_count, is_at, Entry, Inv, number_is, Shows, is_taken, place_with}
use Rattle.fs_machine.specs.declared.desk.Desk as cards
use Rattle.inode_machine.specs.World.{World}
use Rattle.inodes_on_blocks.proofs.Owed.{sum_front, one_cond}

-- ---- sums

count_sum : {X : Type 0} (p : X → Bool) (xs : List X) (f : ℕ → ℕ) → ((k : ℕ) (x : X) → slice_get xs k ≡ Some x → one_if (p x) ≡ f k)
    → count_by p xs ≡ sum_below (length xs) f
unfolding sum_below
count_sum p [] f same = refl
count_sum {X} p (x ∷ xs) f same =
    let ih = count_sum p xs (λ k. f (suc k)) (λ k y at. same (suc k) y at) in
    let a = sum_by-cons (λ (y : X). cond (p y) 1 0) x xs in
    let b = one_cond (p x) in
    let c = same 0 x refl in
    let d = sum_front (length xs) f in
    omega (arith, ih, a, b, c, d)

-- ---- references

module _ (n : ℕ) (t : TablesState) (w : World) (load : ℕ → Option Loaded) (shows : Shows t w load) (inv : Inv w) where
  file_at : (o : Option Entry) (b : Bool) → one_if (is_file_of n (place_with b o)) ≡ number_is o n
  file_at (Some e) b = refl
  file_at None true = one_no false refl
  file_at None false = one_no false refl

  files_are : count_by (is_file_of n) t.files ≡ w.slots n
  files_are =
      count_sum (is_file_of n) t.files (λ k. number_is (w.files k) n)
      (λ k x there.
      ap (λ (y : FilePlace). one_if (is_file_of n y))
      (same_Some x _ (sym there ∙ shows.files k (subst (λ (m : ℕ). k < m) shows.sound.files (slice_get_within t.files k x there))))
      ∙ file_at (w.files k) (is_taken w.desks k))
      ∙ ap (λ (m : ℕ). sum_below m (λ k. number_is (w.files k) n)) shows.sound.files ∙ sym (inv.tied.slots n)

  desks_are : count_by (is_directory_of n) t.desks ≡ sum_below hart_count (λ g. one_if ((w.desks g).directory == n))
  desks_are =
      count_sum (is_directory_of n) t.desks (λ g. one_if ((w.desks g).directory == n))
      (λ k x there.
      let d = shows.desks k (subst (λ (m : ℕ). k < m) shows.sound.desks (slice_get_within t.desks k x there)) in
      ap (λ (z : ℕ). one_if (z == n)) (ap (λ (y : cards.Desk). y.directory) (same_Some x d.0 (sym there ∙ d.1)) ∙ d.2.directory))
      ∙ ap (λ (m : ℕ). sum_below m (λ g. one_if ((w.desks g).directory == n))) shows.sound.desks

  pub all_counted : references_of n t ≡ count_by (is_file_of n) t.files + sum_below hart_count (λ g. (w.harts g).refs n)
  all_counted = let a = files_are in let b = inv.counts n in let c = shows.places.counts n in omega (arith, a, b, c)

  -- if each hart refers to its directory alone
  pub none_more : ((g : ℕ) → g < hart_count → (w.harts g).refs n ≡ one_if ((w.desks g).directory == n)) → references_of n t ≡ owed n t
  none_more alone =
      let a = all_counted in
      let b = desks_are in
      let c = sum_same hart_count (λ g. one_if ((w.desks g).directory == n)) (λ g. (w.harts g).refs n) alone in
      omega (arith, a, b, c)

-- ---- places for open files

module _ (t : TablesState) (w : World) (load : ℕ → Option Loaded) (shows : Shows t w load) (idle : (g : ℕ) → (w.desks g).hand ≡ None) where
  in_no_hand : (k : ℕ) → is_taken w.desks k ≡ false
  in_no_hand k = none_any hart_count (λ g. is_at (w.desks g).hand k) (λ g lt. ap (λ (o : Option ℕ). is_at o k) (idle g))

  free_or_open : (o : Option Entry) → place_with false o ≢ Taken
  free_or_open None e = cc
  free_or_open (Some x) e = cc

  pub no_place_taken : (k : ℕ) → slice_get t.files k ≢ Some Taken
  no_place_taken k there =
      let below : k < file_count = subst (λ (m : ℕ). k < m) shows.sound.files (slice_get_within t.files k Taken there) in
      let is : Some (place_with false (w.files k)) ≡ Some Taken =
      ap (λ (b : Bool). Some (place_with b (w.files k))) (sym (in_no_hand k)) ∙ sym (shows.files k below) ∙ there in
      free_or_open (w.files k) (same_Some _ _ is)
