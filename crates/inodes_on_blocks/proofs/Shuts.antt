-- A descriptor shut: whether others name its open file still.
use Rattle.inodes_on_blocks.proofs.Vocabulary.{◌≡◌, ◌≢◌, ◌⊎◌, inl, inr, ℕ, zero, suc, ◌+◌, ◌-◌, ◌<◌, ◌==◌, ◌||◌, Bool, true, false, List, [], ◌∷◌, length, Option, Some, None, refl, sym, ◌∙◌, ap, subst, arith, slice_get, list_any, slice_get_within, same_Some, none-some, ExecResult, put, any_below, hart_count, descriptor_count, sum_below, one_if, either, eq_is, eq_not, eq_self, same_or, put_same, put_other, any_none, none_any, sum_none, sum_part, one_yes, one_no, ShutState as Shut, TablesState, place_named, with_desk, is_place, names, shut_descriptor, shut_at, freed_at, freed_if, with_descriptor, with_place, IsSoundTables, Desk, slot_at, entry_at, is_at, close_if, close_less, close_last, Inv, uses, users, users_put, BothCame, DeskShows, DesksShow, Runs, descriptor, first, lent_by, place_with, is_taken, shut_as, DescriptorsAreShut, Loaded}
use Rattle.fs_machine.specs.declared.desk.Desk as cards
use Rattle.fs_machine.specs.declared.files.FilePlace.TheVariants.{Free}
use Rattle.fs_machine.specs.declared.slots.Shut.TheVariants as shut
use Rattle.fs_machine.specs.Files.{is_named}
use Rattle.inode_machine.specs.World.{World}
use Rattle.inode_machine.specs.Exec as above
use Rattle.inode_machine.specs.Exec.{entry_of}
use Rattle.inodes_on_blocks.specs.ShownTables.{Shows}
use Rattle.inodes_on_blocks.proofs.Basics.{both_ran, named_is, lenders_set, taken_same, part_same, files_set, desk_set, long_desks, long_files, Names, names_at, open_there, card_named, files_counted}

-- ---- lists

any_no : {X : Type 0} (p : X → Bool) (xs : List X) → ((j : ℕ) (x : X) → slice_get xs j ≡ Some x → p x ≡ false) → list_any p xs ≡ false
any_no p [] none = refl
any_no p (x ∷ xs) none = rw (none 0 x refl) (any_no p xs (λ j y at. none (suc j) y at))

any_yes : {X : Type 0} (p : X → Bool) (xs : List X) (j : ℕ) (x : X) → slice_get xs j ≡ Some x → p x ≡ true → list_any p xs ≡ true
any_yes p [] j x at good = absurd (none-some x at)
any_yes p (y ∷ ys) zero x at good = ap (λ (b : Bool). b || list_any p ys) (ap p (same_Some y x at) ∙ good)
any_yes p (y ∷ ys) (suc j) x at good = or_yes (p y) (list_any p ys) (any_yes p ys j x at good)
  where
    or_yes : (a b : Bool) → b ≡ true → (a || b) ≡ true
    or_yes true b e = refl
    or_yes false b e = e

place_same : (k : ℕ) (o : Option ℕ) → is_place k o ≡ is_at o k
place_same k None = refl
place_same k (Some j) = refl

-- ---- how often a slot is used

-- if it isn't used at all nothing names it
unused_fd : (D : ℕ → Desk) (k g i : ℕ) → users D k ≡ 0 → g < hart_count → i < descriptor_count → (is_at ((D g).fds i) k ≡ false) × (is_at ((D g).lent i) k ≡ false)
unused_fd D k g i none lg li =
    let a = sum_part hart_count g (λ z. uses (D z) k) lg in
    let b = sum_part descriptor_count i (λ z. one_if (is_at ((D g).fds z) k)) li in
    let c = sum_part descriptor_count i (λ z. one_if (is_at ((D g).lent z) k)) li in
    (zero_no (is_at ((D g).fds i) k) (omega (arith, a, b, none)), zero_no (is_at ((D g).lent i) k) (omega (arith, a, c, none)))
  where
    zero_no : (b : Bool) → one_if b ≡ 0 → b ≡ false
    zero_no true e = absurd (let o = one_yes true refl in omega (arith, e, o))
    zero_no false e = refl

-- a hart's descriptor has it, or it is on its way to a hart
used_by : (ℕ → Desk) → ℕ → Bool
used_by D k = any_below hart_count (λ g. any_below descriptor_count (λ i. is_at ((D g).fds i) k || is_at ((D g).lent i) k))

or_no : (a b : Bool) → (a || b) ≡ false → (a ≡ false) × (b ≡ false)
or_no a b e = grind arith

not_used : (D : ℕ → Desk) (k : ℕ) → used_by D k ≡ false → users D k ≡ 0
unfolding used_by
not_used D k un = sum_none hart_count (λ g. uses (D g) k) (λ g lg.
    let row = any_none hart_count (λ g. any_below descriptor_count (λ i. is_at ((D g).fds i) k || is_at ((D g).lent i) k)) un g lg in
    let each : (i : ℕ) → i < descriptor_count → (is_at ((D g).fds i) k ≡ false) × (is_at ((D g).lent i) k ≡ false) = λ i li. or_no _ _ (any_none descriptor_count (λ i. is_at ((D g).fds i) k || is_at ((D g).lent i) k) row i li) in
    let a : sum_below descriptor_count (λ i. one_if (is_at ((D g).fds i) k)) ≡ 0 = sum_none descriptor_count _ (λ i li. one_no _ (each i li).0) in
    let b : sum_below descriptor_count (λ i. one_if (is_at ((D g).lent i) k)) ≡ 0 = sum_none descriptor_count _ (λ i li. one_no _ (each i li).1) in
    omega (arith, a, b))

-- a number below that passes
some_below : (n : ℕ) (p : ℕ → Bool) → any_below n p ≡ true → (i : ℕ) × (i < n) × (p i ≡ true)
unfolding any_below
some_below zero p e = absurd (let q : false ≡ true = e in cc)
some_below (suc n) p e = elim (either (p n)) [
  | inl y ↦ (n, omega arith, y)
  | inr fails ↦ let r = some_below n p (sym (ap (λ (b : Bool). b || any_below n p) fails) ∙ e) in let lt = r.1 in (r.0, omega (arith, lt), r.2)
]

-- ---- the descriptor shut

module _ (h fd k : ℕ) (t : TablesState) (w : World) (load : ℕ → Option Loaded) (shows : Shows t w load) (inv : Inv w) (runs : Runs h w) (lends : (i : ℕ) → (w.desks h).lent i ≡ None) (n : Names h fd k w) where
  abbrev new : Desk
  new = record (w.desks h) { fds = put (w.desks h).fds fd None }

  abbrev D : ℕ → Desk
  D = put w.desks h new

  abbrev then_ : TablesState
  then_ = with_desk h (with_descriptor fd None) t

  desks_then : DesksShow then_.desks D
  desks_then = desk_set h t w load shows runs (with_descriptor fd None) new runs.free (λ i. refl) (λ d c. card_named d (w.desks h).fds (w.desks h).directory (w.desks h).hand fd None c n.below)

  lenders_then : (g l : ℕ) → (D g).lender ≡ Some l → l < hart_count
  lenders_then = lenders_set w.desks h new refl shows.lenders

  long_then : length then_.desks ≡ hart_count
  long_then = long_desks h t w load shows runs (with_descriptor fd None)

  -- a desk of the list
  card_at : (j : ℕ) (x : cards.Desk) → slice_get then_.desks j ≡ Some x → (j < hart_count) × DeskShows x (descriptor D j) (D j).directory (D j).hand
  card_at j x there =
      let lt : j < hart_count = subst (λ (m : ℕ). j < m) long_then (slice_get_within then_.desks j x there) in
      let s = desks_then j lt in
      (lt, subst (λ (c : cards.Desk). DeskShows c (descriptor D j) (D j).directory (D j).hand) (same_Some s.0 x (sym s.1 ∙ there)) s.2)

  unnamed : users D k ≡ 0 → is_named k then_ ≡ false
  unnamed none = any_no (names k) then_.desks (λ j x there.
      let c = card_at j x there in
      any_no (is_place k) x.descriptors (λ i y at.
      let li : i < descriptor_count = subst (λ (m : ℕ). i < m) c.1.long (slice_get_within x.descriptors i y at) in
      place_same k y ∙ ap (λ (o : Option ℕ). is_at o k) (same_Some y (descriptor D j i) (sym at ∙ c.1.descriptors i li)) ∙ not_here j i c.0 li ((D j).fds i) refl (D j).lender refl))
    where
      not_here : (j i : ℕ) → j < hart_count → i < descriptor_count → (o : Option ℕ) → (D j).fds i ≡ o → (l : Option ℕ) → (D j).lender ≡ l → is_at (first o (lent_by D l i)) k ≡ false
      not_here j i lj li (Some m) e l q = ap (λ (o : Option ℕ). is_at o k) (sym e) ∙ (unused_fd D k j i none lj li).0
      not_here j i lj li None e None q = refl
      not_here j i lj li None e (Some g) q = (unused_fd D k g i none (lenders_then j g q) li).1

  -- a descriptor that has it still
  named_by : (g i : ℕ) → g < hart_count → i < descriptor_count → is_at ((D g).fds i) k ≡ true → is_named k then_ ≡ true
  named_by g i lg li good =
      let c = desks_then g lg in
      any_yes (names k) then_.desks g c.0 c.1 (any_yes (is_place k) c.0.descriptors i (descriptor D g i) (c.2.descriptors i li) (place_same k (descriptor D g i) ∙ at ((D g).fds i) good))
    where
      at : (o : Option ℕ) → is_at o k ≡ true → is_at (first o (lent_by D (D g).lender i)) k ≡ true
      at (Some m) e = e
      at None e = absurd (let q : false ≡ true = e in cc)

  named_still : 0 < users D k → is_named k then_ ≡ true
  unfolding used_by
  named_still lt = by_use (used_by D k) refl
    where
      by_which : (g i : ℕ) → g < hart_count → i < descriptor_count → (is_at ((D g).fds i) k || is_at ((D g).lent i) k) ≡ true → is_named k then_ ≡ true
      by_which g i lg li e = elim (either (is_at ((D g).fds i) k)) [
        | inl y ↦ named_by g i lg li y
        | inr isnt ↦ lent_so (same_or g h) (sym (ap (λ (b : Bool). b || is_at ((D g).lent i) k) isnt) ∙ e)
      ]
        where
          has_it : (o : Option ℕ) → is_at o k ≡ true → o ≡ Some k
          has_it None q = absurd (let z : false ≡ true = q in cc)
          has_it (Some l) q = ap (λ (x : ℕ). Some x) (eq_is l k q)

          lent_so : (g ≡ h) ⊎ (g ≢ h) → is_at ((D g).lent i) k ≡ true → is_named k then_ ≡ true
          lent_so (inl q) l = absurd (none-some k (sym (ap (λ (z : ℕ). (D z).lent i) q ∙ ap (λ (d : Desk). d.lent i) (put_same w.desks h new) ∙ lends i) ∙ has_it ((D g).lent i) l))
          lent_so (inr ne) l =
              let was = inv.tied.lends g i k lg li (ap (λ (d : Desk). d.lent i) (sym (put_other w.desks h new g ne)) ∙ has_it ((D g).lent i) l) in
              named_by g i lg li (ap (λ (o : Option ℕ). is_at o k) (ap (λ (d : Desk). d.fds i) (put_other w.desks h new g ne) ∙ was) ∙ eq_self k)

      by_use : (b : Bool) → used_by D k ≡ b → is_named k then_ ≡ true
      by_use true e =
          let a = some_below hart_count (λ g. any_below descriptor_count (λ i. is_at ((D g).fds i) k || is_at ((D g).lent i) k)) e in
          let b = some_below descriptor_count (λ i. is_at ((D a.0).fds i) k || is_at ((D a.0).lent i) k) a.2 in
          by_which a.0 b.0 a.1 b.1 b.2
      by_use false e = absurd (let z = not_used D k e in omega (arith, z, lt))

  -- how many descriptors are left
  left : users D k + 1 ≡ n.entry.references
  left =
      let a = users_put w.desks h fd k None runs.below n.below in
      let b : one_if (is_at ((w.desks h).fds fd) k) ≡ 1 = one_yes _ (ap (λ (o : Option ℕ). is_at o k) n.is ∙ eq_self k) in
      let c : one_if (is_at None k) ≡ 0 = one_no false refl in
      let d = (inv.tied.counted k n.entry n.at).0 in
      omega (arith, a, b, c, d)

  untaken : is_taken D k ≡ false
  untaken = none_any hart_count (λ g. is_at (D g).hand k) (λ g lg. part_same (λ d. is_at d.hand k) w.desks h new g refl ∙ at g lg (w.desks g).hand refl)
    where
      at : (g : ℕ) → g < hart_count → (o : Option ℕ) → (w.desks g).hand ≡ o → is_at o k ≡ false
      at g lg None e = refl
      at g lg (Some l) e = elim (same_or l k) [
        | inl q ↦ absurd (none-some n.entry (sym (inv.tied.hand g k lg (e ∙ ap (λ (x : ℕ). Some x) q)).1 ∙ n.at))
        | inr ne ↦ eq_not l k ne
      ]

  sound_then : IsSoundTables then_
  sound_then = record { inodes = shows.sound.inodes; files = shows.sound.files; desks = long_then }

  shown_less : Shows then_ (close_less h w fd k n.entry) load
  shown_less = record {
    sound = sound_then;
    places = shows.places;
    files = files_counted h fd k (n.entry.references - 1) None t w load shows n new refl;
    desks = desks_then;
    lenders = lenders_then;
    range = shows.range;
  }

  shown_last : Shows (with_place k Free then_) (close_last h w fd k n.entry) load
  shown_last = record {
    sound = record { inodes = shows.sound.inodes; files = long_files h t w load shows runs k Free; desks = long_then };
    places = shows.places;
    files = files_set t.files w.files (put w.files k None) w.desks D k Free shows.files (λ z. place_with (sym untaken z) (sym (put_same w.files k None) z)) (λ j ne. (put_other w.files k None j ne, taken_same w.desks h new j refl));
    desks = desks_then;
    lenders = lenders_then;
    range = shows.range;
  }

  pub shut_one : (is : slot_at w h fd ≡ Some k) → BothCame (λ a b. a ≡ shut_as b) (λ a. load) (freed_at k then_) (close_if h w fd k n.entry (n.entry.references == 1))
  shut_one is = elim (same_or n.entry.references 1) [
    | inl one ↦
        let none : users D k ≡ 0 = let l = left in omega (arith, l, one) in
        both_ran (λ a b. a ≡ shut_as b) (λ a. load) (freed_at k then_) (close_if h w fd k n.entry (n.entry.references == 1)) (shut.Last n.entry.file.number) (Some (Some n.entry.file.number)) (with_place k Free then_) (close_last h w fd k n.entry)
        (λ z. freed_if k then_ (open_there h fd t w load shows inv runs k n z) (unnamed none z))
        (ap (λ (x : ℕ). close_if h w fd k n.entry (x == 1)) one) refl shown_last
    | inr more ↦
        let some : 0 < users D k = let l = left in omega (arith, l, more) in
        both_ran (λ a b. a ≡ shut_as b) (λ a. load) (freed_at k then_) (close_if h w fd k n.entry (n.entry.references == 1)) shut.Closed (Some None) then_ (close_less h w fd k n.entry)
        (λ z. freed_if k then_ (open_there h fd t w load shows inv runs k n z) (named_still some z))
        (ap (close_if h w fd k n.entry) (eq_not n.entry.references 1 more)) refl shown_less
  ]

pub descriptors_are_shut : DescriptorsAreShut
unfolding shut_descriptor
descriptors_are_shut version h fd t w load shows inv runs lends = at (slot_at w h fd) refl
  where
    lower : (o : Option ℕ) → slot_at w h fd ≡ o → shut_at h fd t (place_named h fd t) ≡ shut_at h fd t o
    lower o e = ap (shut_at h fd t) (named_is h fd t w load shows runs ∙ e)

    upper : (o : Option ℕ) → slot_at w h fd ≡ o → above.close_at h w fd (slot_at w h fd) (entry_of w h fd) ≡ above.close_at h w fd o (entry_at w.files o)
    upper o e = ap (λ (z : Option ℕ). above.close_at h w fd z (entry_at w.files z)) e

    at : (o : Option ℕ) → slot_at w h fd ≡ o → BothCame (λ a b. a ≡ shut_as b) (λ a. load) (shut_at h fd t (place_named h fd t)) (above.close_at h w fd (slot_at w h fd) (entry_of w h fd))
    at None e = both_ran (λ a b. a ≡ shut_as b) (λ a. load) (shut_at h fd t (place_named h fd t)) (above.close_at h w fd (slot_at w h fd) (entry_of w h fd)) shut.BadDescriptor None t w (lower None e) (upper None e) refl shows
    at (Some k) e =
        let n = names_at h fd k w inv runs.below e in
        subst (λ (x : ExecResult Shut TablesState). BothCame (λ a b. a ≡ shut_as b) (λ a. load) x (above.close_at h w fd (slot_at w h fd) (entry_of w h fd))) (sym (lower (Some k) e))
        (subst (λ (y : ExecResult (Option (Option ℕ)) World). BothCame (λ a b. a ≡ shut_as b) (λ a. load) (freed_at k (with_desk h (with_descriptor fd None) t)) y) (sym (upper (Some k) e ∙ ap (above.close_at h w fd (Some k)) n.at))
        (shut_one h fd k t w load shows inv runs lends n e))
