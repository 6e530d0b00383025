-- Desks, and the places of open files, after a change of one hart's desk.
use Rattle.inodes_on_blocks.proofs.Vocabulary.{◌≡◌, ◌≢◌, inl, inr, ℕ, suc, ◌+◌, ◌<◌, ◌≤◌, nat_lt, cond, Bool, true, false, if◌then◌else◌, List, [], ◌∷◌, length, Option, Some, None, refl, sym, ◌∙◌, ap, subst, arith, slice_get, slice_set, position, is_none, position_from, position_from-zero, nat_tests, slice_get_within, slice_get_past, same_Some, none-some, slice_get-set_same, slice_get-set_other, put, lowest, lowest_from, has_room, hart_count, descriptor_count, same_or, put_same, put_other, any_same, first_empty, TablesState, place_named, at_descriptor, if_there, Desk, is_at, slot_at, first_from, put_elim, Runs, DeskShows, DesksShow, descriptor, first, lent_by, is_taken, Loaded}
use Rattle.fs_machine.specs.declared.desk.Desk as cards
use Rattle.inode_machine.specs.World.{World}
use Rattle.inodes_on_blocks.specs.ShownTables.{Shows}

-- ---- lists

-- the first place that passes, as the first number that does
pub first_place : {X : Type 0} (p : X → Bool) (q : ℕ → Bool) (xs : List X) (i : ℕ) → ((j : ℕ) (x : X) → slice_get xs j ≡ Some x → p x ≡ q (i + j)) → position_from p i xs ≡ first_from (length xs) i q
unfolding first_from
first_place p q [] i same = refl
first_place {X} p q (x ∷ xs) i same = by_test (first_place p q xs (i + 1) (λ j z at. same (suc j) z at ∙ ap q (omega arith))) (p x) (same 0 x refl ∙ ap q (omega arith))
  where
    by_test : position_from p (i + 1) xs ≡ first_from (length xs) (i + 1) q → (b : Bool) → b ≡ q i → cond b (Some i) (position_from p (i + 1) xs) ≡ cond (q i) (Some i) (first_from (length xs) (i + 1) q)
    by_test rest true e = ap (λ (b : Bool). cond b (Some i) (first_from (length xs) (i + 1) q)) e
    by_test rest false e = rest ∙ ap (λ (b : Bool). cond b (Some i) (first_from (length xs) (i + 1) q)) e

pub position_first : {X : Type 0} (p : X → Bool) (q : ℕ → Bool) (xs : List X) (n : ℕ) → length xs ≡ n → ((j : ℕ) (x : X) → slice_get xs j ≡ Some x → p x ≡ q j) → position p xs ≡ first_from n 0 q
position_first p q xs n long same = position_from-zero p xs ∙ first_place p q xs 0 (λ j x at. same j x at ∙ ap q (omega arith)) ∙ ap (λ (m : ℕ). first_from m 0 q) long

less : (i n : ℕ) → nat_lt i (i + suc n) ≡ true
less i n = grind (arith, nat_tests)

same_end : (i n : ℕ) → (i + 1) + n ≡ i + suc n
same_end i n = omega arith

none_less : (i : ℕ) → nat_lt i (i + 0) ≡ false
none_less i = grind (arith, nat_tests)

abbrev found_below : ℕ → ℕ → Option ℕ
found_below a n = if nat_lt a n then Some a else None

lowest_place : (used : ℕ → Option ℕ) (xs : List (Option ℕ)) (i : ℕ) → ((j : ℕ) → j < length xs → slice_get xs j ≡ Some (used (i + j))) → position_from is_none i xs ≡ found_below (lowest_from (length xs) i used) (i + length xs)
unfolding lowest_from
lowest_place used [] i same = sym (ap (λ (b : Bool). if b then Some i else None) (none_less i))
lowest_place used (x ∷ xs) i same =
    by_test (lowest_place used xs (i + 1) (λ j lt. same (suc j) (omega (arith, lt)) ∙ ap (λ (z : ℕ). Some (used z)) (omega arith)) ∙ ap (found_below (lowest_from (length xs) (i + 1) used)) (same_end i (length xs)))
    x (used i) (same_Some x (used i) (same 0 (omega arith) ∙ ap (λ (z : ℕ). Some (used z)) (omega arith)))
  where
    by_test : position_from is_none (i + 1) xs ≡ found_below (lowest_from (length xs) (i + 1) used) (i + suc (length xs)) → (y o : Option ℕ) → y ≡ o → cond (is_none y) (Some i) (position_from is_none (i + 1) xs) ≡ found_below (elim o [ None ↦ i | Some id ↦ lowest_from (length xs) (i + 1) used ]) (i + suc (length xs))
    by_test rest None None e = sym (ap (λ (b : Bool). if b then Some i else None) (less i (length xs)))
    by_test rest None (Some k) e = absurd (none-some k e)
    by_test rest (Some k) None e = absurd (none-some k (sym e))
    by_test rest (Some k) (Some l) e = rest

-- the lowest free descriptor
pub first_empty_is : (used : ℕ → Option ℕ) (xs : List (Option ℕ)) → length xs ≡ descriptor_count → ((j : ℕ) → j < descriptor_count → slice_get xs j ≡ Some (used j)) → first_empty xs ≡ (if has_room used then Some (lowest used) else None)
first_empty_is used xs long same =
    position_from-zero is_none xs ∙ lowest_place used xs 0 (λ j lt. same j (subst (λ (n : ℕ). j < n) long lt) ∙ ap (λ (z : ℕ). Some (used z)) (omega arith))
    ∙ ap (λ (n : ℕ). found_below (lowest_from n 0 used) (0 + n)) long

-- ---- a hart's desk changed

-- a part that the change leaves
pub part_same : {X : Type 0} (part : Desk → X) (desks : ℕ → Desk) (h : ℕ) (new : Desk) (g : ℕ) → part new ≡ part (desks h) → part (put desks h new g) ≡ part (desks g)
part_same part desks h new g same = put_elim desks h new g (λ d. part d ≡ part (desks g)) (λ e. same ∙ ap (λ (z : ℕ). part (desks z)) (sym e)) (λ ne. refl)

lent_same : (desks : ℕ → Desk) (h : ℕ) (new : Desk) (i : ℕ) → new.lent i ≡ (desks h).lent i → (o : Option ℕ) → lent_by (put desks h new) o i ≡ lent_by desks o i
lent_same desks h new i same None = refl
lent_same desks h new i same (Some g) = part_same (λ d. d.lent i) desks h new g same

pub descriptors_other : (desks : ℕ → Desk) (h : ℕ) (new : Desk) (g i : ℕ) → g ≢ h → new.lent i ≡ (desks h).lent i → descriptor (put desks h new) g i ≡ descriptor desks g i
descriptors_other desks h new g i ne same =
    (λ z. first ((put_other desks h new g ne z).fds i) (lent_by (put desks h new) (put_other desks h new g ne z).lender i)) ∙ ap (first ((desks g).fds i)) (lent_same desks h new i same (desks g).lender)

pub descriptors_here : (desks : ℕ → Desk) (h : ℕ) (new : Desk) (i : ℕ) → new.lender ≡ None → descriptor (put desks h new) h i ≡ new.fds i
descriptors_here desks h new i free =
    (λ z. first ((put_same desks h new z).fds i) (lent_by (put desks h new) (put_same desks h new z).lender i)) ∙ ap (λ (o : Option ℕ). first (new.fds i) (lent_by (put desks h new) o i)) free ∙ alone (new.fds i)
  where
    alone : (o : Option ℕ) → first o None ≡ o
    alone None = refl
    alone (Some k) = refl

-- what the desks show then
pub desks_set : (list : List cards.Desk) (desks : ℕ → Desk) (h : ℕ) (d e : cards.Desk) (new : Desk) → slice_get list h ≡ Some d → new.lender ≡ None → ((i : ℕ) → new.lent i ≡ (desks h).lent i)
    → DeskShows e new.fds new.directory new.hand → DesksShow list desks → DesksShow (slice_set list h e) (put desks h new)
desks_set list desks h d e new there free lent card shows g lt = elim (same_or g h) [
  | inl q ↦ (
    e,
    ap (slice_get (slice_set list h e)) q ∙ slice_get-set_same list h e (slice_get_within list h d there),
    record {
      long = card.long;
      descriptors = λ i l. card.descriptors i l ∙ ap (λ (o : Option ℕ). Some o) (sym (ap (λ (z : ℕ). descriptor (put desks h new) z i) q ∙ descriptors_here desks h new i free));
      directory = card.directory ∙ sym (ap (λ (z : ℕ). (put desks h new z).directory) q ∙ ap (λ (x : Desk). x.directory) (put_same desks h new));
      hand = card.hand ∙ sym (ap (λ (z : ℕ). (put desks h new z).hand) q ∙ ap (λ (x : Desk). x.hand) (put_same desks h new));
    },
  )
  | inr ne ↦
      let was = shows g lt in (
        was.0,
        slice_get-set_other list h g e ne ∙ was.1,
        record {
          long = was.2.long;
          descriptors = λ i l. was.2.descriptors i l ∙ ap (λ (o : Option ℕ). Some o) (sym (descriptors_other desks h new g i ne (lent i)));
          directory = was.2.directory ∙ sym (ap (λ (x : Desk). x.directory) (put_other desks h new g ne));
          hand = was.2.hand ∙ sym (ap (λ (x : Desk). x.hand) (put_other desks h new g ne));
        },
      )
]

-- who hands descriptors on then
pub lenders_set : (desks : ℕ → Desk) (h : ℕ) (new : Desk) → new.lender ≡ (desks h).lender → ((g l : ℕ) → (desks g).lender ≡ Some l → l < hart_count) → (g l : ℕ) → (put desks h new g).lender ≡ Some l → l < hart_count
lenders_set desks h new same lenders g l e = lenders g l (sym (part_same (λ d. d.lender) desks h new g same) ∙ e)

-- the hart's own desk, as it is
pub own_desk : (h : ℕ) (t : TablesState) (w : World) (load : ℕ → Option Loaded) → Shows t w load → Runs h w → (d : cards.Desk) × (slice_get t.desks h ≡ Some d) × DeskShows d (w.desks h).fds (w.desks h).directory (w.desks h).hand
own_desk h t w load shows runs =
    let was = shows.desks h runs.below in (
      was.0,
      was.1,
      record {
        long = was.2.long;
        descriptors = λ i l. was.2.descriptors i l ∙ ap (λ (o : Option ℕ). Some o) (ap (λ (o : Option ℕ). first ((w.desks h).fds i) (lent_by w.desks o i)) runs.free ∙ alone ((w.desks h).fds i));
        directory = was.2.directory;
        hand = was.2.hand;
      },
    )
  where
    alone : (o : Option ℕ) → first o None ≡ o
    alone None = refl
    alone (Some k) = refl

-- which places are taken for files to come
pub taken_same : (desks : ℕ → Desk) (h : ℕ) (new : Desk) (k : ℕ) → is_at new.hand k ≡ is_at (desks h).hand k → is_taken (put desks h new) k ≡ is_taken desks k
taken_same desks h new k same = any_same hart_count _ _ (λ g lt. part_same (λ d. is_at d.hand k) desks h new g same)

-- what a descriptor names
pub named_is : (h fd : ℕ) (t : TablesState) (w : World) (load : ℕ → Option Loaded) → Shows t w load → Runs h w → place_named h fd t ≡ slot_at w h fd
named_is h fd t w load shows runs =
    let own = own_desk h t w load shows runs in
    ap (at_descriptor fd) own.1 ∙ at own.0 own.2 (nat_lt fd descriptor_count) refl
  where
    below : (a b : ℕ) → nat_lt a b ≡ true → a < b
    below a b e = grind (arith, nat_tests)

    past : (a b : ℕ) → nat_lt a b ≡ false → b ≤ a
    past a b e = grind (arith, nat_tests)

    at : (d : cards.Desk) → DeskShows d (w.desks h).fds (w.desks h).directory (w.desks h).hand → (b : Bool) → nat_lt fd descriptor_count ≡ b → if_there (slice_get d.descriptors fd) ≡ (if b then (w.desks h).fds fd else None)
    at d s true e = ap if_there (s.descriptors fd (below fd descriptor_count e))
    at d s false e = ap if_there (slice_get_past d.descriptors fd (subst (λ (n : ℕ). n ≤ fd) (sym s.long) (past fd descriptor_count e)))
