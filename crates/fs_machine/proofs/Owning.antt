-- What an operation leaves of what is another hart's.
use Rattle.fs_machine.proofs.Vocabulary.{◌≡◌, ◌≢◌, inl, inr, ℕ, ◌+◌, ◌≤◌, ◌==◌, Bool, true, false, List, [], ◌∷◌, ◌++◌, Option, Some, None, length, refl, sym, subst, ap, ◌∙◌, arith, if◌then◌else◌, cases_eq, eqb-true, slice_index, is_some, is_none, not, ◌&&◌, cond, option_map, option_and_then, nat_tests, change_first, change_to_end, count_of, get_of, get_by, get_new, SeatState, seat_of, holder_of, has_block, is_held_by, is_number, is_out, with_seat, with_holder, with_content, with_pin, without_holder, as_new, given_back, Got, Phase, Open, Staging, Installing, Halted, turn_is_out, seats_after, seats_at_fault, pick, first_passes, seat_changed, seat_of_others, seat_given_back, others_given_back, mine_of}
use Rattle.std.specs.List.{find}
use Rattle.buffer_cache.specs.Getting.{guard_of}
use Rattle.buffer_cache.specs.Seats.{is_free}
use Rattle.buffer_cache.specs.declared.got.Got.TheVariants as got

-- ---- counts

pub count_first : {X : Type 0} (q p : X → Bool) (f : X → X) (xs : List X) → ((x : X) → find p xs ≡ Some x → q (f x) ≡ q x) → count_of q (change_first p f xs) ≡ count_of q xs
count_first q p f [] same = refl
count_first {X} q p f (x ∷ xs) same =
    pick (p x) (λ t. ((y : X) → (if t then Some x else find p xs) ≡ Some y → q (f y) ≡ q y) → count_of q (if t then f x ∷ xs else x ∷ change_first p f xs) ≡ count_of q (x ∷ xs))
    (λ _ all. ap (λ (t : Bool). cond t 1 0 + count_of q xs) (all x refl))
    (λ _ all. ap (λ (n : ℕ). cond (q x) 1 0 + n) (count_first q p f xs all))
    same

pub count_snoc : {X : Type 0} (q : X → Bool) (xs : List X) (y : X) → count_of q (xs ++ y ∷ []) ≡ cond (q y) 1 0 + count_of q xs
count_snoc q [] y = refl
count_snoc q (x ∷ xs) y = let more = count_snoc q xs y in omega (arith, more)

count_end : {X : Type 0} (q p : X → Bool) (f : X → X) (xs : List X) → ((x : X) → find p xs ≡ Some x → q (f x) ≡ q x) → count_of q (change_to_end p f xs) ≡ count_of q xs
count_end q p f [] same = refl
count_end {X} q p f (x ∷ xs) same =
    pick (p x) (λ t. ((y : X) → (if t then Some x else find p xs) ≡ Some y → q (f y) ≡ q y) → count_of q (if t then xs ++ f x ∷ [] else x ∷ change_to_end p f xs) ≡ count_of q (x ∷ xs))
    (λ _ all. count_snoc q xs (f x) ∙ ap (λ (t : Bool). cond t 1 0 + count_of q xs) (all x refl))
    (λ _ all. ap (λ (n : ℕ). cond (q x) 1 0 + n) (count_end q p f xs all))
    same

-- ---- the seats of one hart

pub record SameFor (g : ℕ) (old new : List SeatState) : Type 0 where
  pub count : count_of (is_held_by g) new ≡ count_of (is_held_by g) old
  pub each : (k : ℕ) → mine_of g (seat_of k new) ≡ mine_of g (seat_of k old)

pub same_for : (g : ℕ) (ss : List SeatState) → SameFor g ss ss
same_for g ss = record { count = refl; each = λ k. refl }

pub same_both : (g : ℕ) (a b c : List SeatState) → SameFor g a b → SameFor g b c → SameFor g a c
same_both g a b c x y = record { count = y.count ∙ x.count; each = λ k. y.each k ∙ x.each k }

-- a change in place
pub same_with : (g b : ℕ) (f : SeatState → SeatState) (ss : List SeatState) → ((s : SeatState) → (f s).block ≡ s.block)
    → ((s : SeatState) → seat_of b ss ≡ Some s → (is_held_by g (f s) ≡ is_held_by g s) × (mine_of g (Some (f s)) ≡ mine_of g (Some s))) → SameFor g ss (with_seat b f ss)
same_with g b f ss block same = record {
  count = count_first (is_held_by g) (has_block b) f ss (λ s first. (same s first).0);
  each = λ k. elim (cases_eq k b) [
    | inl is ↦ subst (λ (j : ℕ). mine_of g (seat_of j (with_seat b f ss)) ≡ mine_of g (seat_of j ss)) (sym is) (ap (mine_of g) (seat_changed b f ss block) ∙ here (seat_of b ss) refl)
    | inr ne ↦ ap (mine_of g) (seat_of_others b k f ss block ne)
  ];
}
  where
    here : (o : Option SeatState) → seat_of b ss ≡ o → mine_of g (option_map f o) ≡ mine_of g o
    here None e = refl
    here (Some s) e = (same s e).1

-- a giving back of other harts' blocks
pub same_back : (g b : ℕ) (ss : List SeatState) → count_of (has_block b) ss ≤ 1 → ((s : SeatState) → seat_of b ss ≡ Some s → is_held_by g s ≡ false) → SameFor g ss (given_back b ss)
same_back g b ss once isnt = record {
  count = count_end (is_held_by g) (has_block b) without_holder ss (λ s first. sym (isnt s first));
  each = λ k. elim (cases_eq k b) [
    | inl is ↦ subst (λ (j : ℕ). mine_of g (seat_of j (given_back b ss)) ≡ mine_of g (seat_of j ss)) (sym is) (ap (mine_of g) (seat_given_back b ss once) ∙ here (seat_of b ss) refl)
    | inr ne ↦ ap (mine_of g) (others_given_back b k ss ne)
  ];
}
  where
    here : (o : Option SeatState) → seat_of b ss ≡ o → mine_of g (option_map without_holder o) ≡ mine_of g o
    here None e = refl
    here (Some s) e = sym (ap (λ (t : Bool). if t then Some s.content else None) (isnt s e))

-- ---- the seats after each operation

not_same : (h g : ℕ) → g ≢ h → (h == g) ≡ false
not_same h g ne = grind (arith, nat_tests)

pub free_not_held : (g : ℕ) (p : Bool) (o : Option ℕ) → (not p && is_none o) ≡ true → is_number g o ≡ false
free_not_held g p None e = refl
free_not_held g true (Some k) e = absurd (cc e)
free_not_held g false (Some k) e = absurd (cc e)

unheld : (g : ℕ) (s : SeatState) → is_held_by g s ≡ false → mine_of g (Some s) ≡ None
unheld g s e = ap (λ (t : Bool). if t then Some s.content else None) e

none_there : (k : ℕ) (xs : List SeatState) → count_of (has_block k) xs ≡ 0 → seat_of k xs ≡ None
none_there k [] e = refl
none_there k (x ∷ xs) e =
    pick (has_block k x) (λ t. cond t 1 0 + count_of (has_block k) xs ≡ 0 → (if t then Some x else seat_of k xs) ≡ None)
    (λ _ z. absurd (omega (arith, z)))
    (λ _ z. none_there k xs (omega (arith, z)))
    e

rest_none : (b : ℕ) (x : SeatState) (xs : List SeatState) → seat_of b (x ∷ xs) ≡ None → seat_of b xs ≡ None
rest_none b x xs e = pick (has_block b x) (λ t. (if t then Some x else seat_of b xs) ≡ None → seat_of b xs ≡ None) (λ _ z. absurd (cc z)) (λ _ z. z) e

new_each : (g h b k : ℕ) (ss : List SeatState) → g ≢ h → ((j : ℕ) → count_of (has_block j) ss ≤ 1) → seat_of b ss ≡ None
    → mine_of g (seat_of k (change_first is_free (as_new h b) ss)) ≡ mine_of g (seat_of k ss)
new_each g h b k [] ne once none = refl
new_each g h b k (x ∷ xs) ne once none =
    pick (is_free x) (λ t. is_free x ≡ t → mine_of g (seat_of k (if t then as_new h b x ∷ xs else x ∷ change_first is_free (as_new h b) xs)) ≡ mine_of g (seat_of k (x ∷ xs)))
    (λ _ free.
    let mine : mine_of g (Some x) ≡ None = unheld g x (free_not_held g x.pinned x.holder free) in
    pick (b == k) (λ t. (b == k) ≡ t → mine_of g (if t then Some (as_new h b x) else seat_of k xs) ≡ mine_of g (seat_of k (x ∷ xs)))
    (λ _ is. unheld g (as_new h b x) (not_same h g ne) ∙ sym (ap (mine_of g) (ap (λ (j : ℕ). seat_of j (x ∷ xs)) (sym (eqb-true b k is)) ∙ none)))
    (λ _ isnt.
    pick (has_block k x) (λ t. cond t 1 0 + count_of (has_block k) xs ≤ 1 → mine_of g (seat_of k xs) ≡ mine_of g (if t then Some x else seat_of k xs))
    (λ _ le. ap (mine_of g) (none_there k xs (omega (arith, le))) ∙ sym mine)
    (λ _ le. refl)
    (once k))
    refl)
    (λ _ _.
    pick (has_block k x) (λ t. mine_of g (if t then Some x else seat_of k (change_first is_free (as_new h b) xs)) ≡ mine_of g (if t then Some x else seat_of k xs))
    (λ _. refl)
    (λ _. new_each g h b k xs ne (λ j. (let a = once j in omega (arith, a))) (rest_none b x xs none)))
    refl

-- nobody but another hart has it
abbrev pub NotMine : ℕ → ℕ → List SeatState → Type 0
NotMine g b ss = (s : SeatState) → seat_of b ss ≡ Some s → is_held_by g s ≡ false

not_mine_with : (g b : ℕ) (f : SeatState → SeatState) (ss : List SeatState) → ((s : SeatState) → (f s).block ≡ s.block) → ((s : SeatState) → (f s).holder ≡ s.holder) → NotMine g b ss → NotMine g b (with_seat b f ss)
not_mine_with g b f ss block holder isnt s e = at (seat_of b ss) refl (sym (seat_changed b f ss block) ∙ e)
  where
    at : (o : Option SeatState) → seat_of b ss ≡ o → option_map f o ≡ Some s → is_held_by g s ≡ false
    at None is z = absurd (cc z)
    at (Some t) is z =
        let same : f t ≡ s = cc z in
        ap (is_held_by g) (sym same) ∙ ap (is_number g) (holder t) ∙ isnt t is

pub not_mine_held : (h g b : ℕ) (ss : List SeatState) → g ≢ h → holder_of b ss ≡ Some h → NotMine g b ss
not_mine_held h g b ss ne out s e =
    let is : s.holder ≡ Some h = sym (ap (option_and_then (λ (t : SeatState). t.holder)) e) ∙ out in
    ap (is_number g) is ∙ not_same h g ne

pub not_mine_in : (g b : ℕ) (ss : List SeatState) → is_some (holder_of b ss) ≡ false → NotMine g b ss
not_mine_in g b ss isnt s e = at s.holder (sym (ap (λ (o : Option SeatState). is_some (option_and_then (λ (t : SeatState). t.holder) o)) e) ∙ isnt)
  where
    at : (o : Option ℕ) → is_some o ≡ false → is_number g o ≡ false
    at None z = refl
    at (Some k) z = absurd (cc z)

once_with : (b : ℕ) (f : SeatState → SeatState) (ss : List SeatState) → ((s : SeatState) → (f s).block ≡ s.block) → count_of (has_block b) ss ≤ 1 → count_of (has_block b) (with_seat b f ss) ≤ 1
once_with b f ss block once = let a = count_first (has_block b) (has_block b) f ss (λ s _. ap (is_number b) (block s)) in omega (arith, a, once)

abbrev seats_in : List SeatState × Got → List SeatState
seats_in r = r.0

pub same_get : (h g b : ℕ) (ss : List SeatState) → g ≢ h → ((j : ℕ) → count_of (has_block j) ss ≤ 1) → SameFor g ss (get_of h b ss).0
unfolding get_of
same_get h g b ss ne once = by_seat (seat_of b ss) refl
  where
    by_free : seat_of b ss ≡ None → (o : Option SeatState) → SameFor g ss (get_new h b ss o).0
    by_free none None = same_for g ss
    by_free none (Some s) = record {
      count = count_first (is_held_by g) is_free (as_new h b) ss (λ t first. not_same h g ne ∙ sym (free_not_held g t.pinned t.holder (first_passes is_free ss t first)));
      each = λ k. new_each g h b k ss ne once none;
    }

    by_out : (s : SeatState) → seat_of b ss ≡ Some s → (out : Bool) → is_out s ≡ out → SameFor g ss (seats_in (if out then (ss, got.Waits) else (with_seat b (with_holder h) ss, got.Held (guard_of h b s s.content))))
    by_out s e true out = same_for g ss
    by_out s e false out = same_with g b (with_holder h) ss (λ t. refl)
        (λ t first.
        let isnt : is_held_by g t ≡ false = not_mine_in g b ss (ap (λ (o : Option SeatState). is_some (option_and_then (λ (t : SeatState). t.holder) o)) e ∙ out) t first in
        (not_same h g ne ∙ sym isnt, unheld g (with_holder h t) (not_same h g ne) ∙ sym (unheld g t isnt)))

    by_seat : (o : Option SeatState) → seat_of b ss ≡ o → SameFor g ss (get_by h b ss o).0
    by_seat None e = by_free e (find is_free ss)
    by_seat (Some s) e = by_out s e (is_out s) refl

pub same_content : (g b : ℕ) (bytes : List ℕ) (ss : List SeatState) → NotMine g b ss → SameFor g ss (with_seat b (with_content bytes) ss)
same_content g b bytes ss isnt = same_with g b (with_content bytes) ss (λ s. refl) (λ s e. (refl, unheld g (with_content bytes s) (isnt s e) ∙ sym (unheld g s (isnt s e))))

pub same_pin : (g b : ℕ) (pinned : Bool) (ss : List SeatState) → SameFor g ss (with_seat b (with_pin pinned) ss)
same_pin g b pinned ss = same_with g b (with_pin pinned) ss (λ s. refl) (λ s e. (refl, refl))

pub same_put : (g b : ℕ) (bytes : List ℕ) (ss : List SeatState) → count_of (has_block b) ss ≤ 1 → NotMine g b ss
    → SameFor g ss (given_back b (with_seat b (with_content bytes) (with_seat b (with_pin true) ss)))
same_put g b bytes ss once isnt =
    let pinned = with_seat b (with_pin true) ss in
    let changed = with_seat b (with_content bytes) pinned in
    let not_pinned = not_mine_with g b (with_pin true) ss (λ s. refl) (λ s. refl) isnt in
    let not_changed = not_mine_with g b (with_content bytes) pinned (λ s. refl) (λ s. refl) not_pinned in
    let once_changed = once_with b (with_content bytes) pinned (λ s. refl) (once_with b (with_pin true) ss (λ s. refl) once) in
    same_both g ss pinned (given_back b changed) (same_pin g b true ss)
    (same_both g pinned changed (given_back b changed) (same_content g b bytes pinned not_pinned) (same_back g b changed once_changed not_changed))

-- a commit's write
module _ (g : ℕ) (ks : List ℕ) (ss : List SeatState) (once : (j : ℕ) → count_of (has_block j) ss ≤ 1) where
  turned : (i : ℕ) → is_some (holder_of (slice_index ks i) ss) ≡ false → SameFor g ss (given_back (slice_index ks i) ss)
  turned i isnt = same_back g (slice_index ks i) ss (once (slice_index ks i)) (not_mine_in g (slice_index ks i) ss isnt)

  pub same_fault : (p : Phase) → turn_is_out ss ks p ≡ false → SameFor g ss (seats_at_fault ks p ss)
  same_fault Open e = same_for g ss
  same_fault (Staging i) e =
      pick (i == length ks) (λ t. (if t then false else is_some (holder_of (slice_index ks i) ss)) ≡ false → SameFor g ss (if t then ss else given_back (slice_index ks i) ss))
      (λ _ _. same_for g ss) (λ _ isnt. turned i isnt) e
  same_fault (Installing i) e =
      pick (i == length ks) (λ t. (if t then false else is_some (holder_of (slice_index ks i) ss)) ≡ false → SameFor g ss (if t then ss else given_back (slice_index ks i) ss))
      (λ _ _. same_for g ss) (λ _ isnt. turned i isnt) e
  same_fault Halted e = same_for g ss

  pub same_after : (p : Phase) → turn_is_out ss ks p ≡ false → SameFor g ss (seats_after ks p ss)
  same_after Open e = same_for g ss
  same_after (Staging i) e =
      pick (i == length ks) (λ t. (if t then false else is_some (holder_of (slice_index ks i) ss)) ≡ false → SameFor g ss (if t then ss else given_back (slice_index ks i) ss))
      (λ _ _. same_for g ss) (λ _ isnt. turned i isnt) e
  same_after (Installing i) e =
      pick (i == length ks)
      (λ t. (if t then false else is_some (holder_of (slice_index ks i) ss)) ≡ false → SameFor g ss (if t then ss else given_back (slice_index ks i) (with_seat (slice_index ks i) (with_pin false) ss)))
      (λ _ _. same_for g ss)
      (λ _ isnt.
      let b = slice_index ks i in
      let unpinned = with_seat b (with_pin false) ss in
      same_both g ss unpinned (given_back b unpinned) (same_pin g b false ss)
      (same_back g b unpinned (once_with b (with_pin false) ss (λ s. refl) (once b)) (not_mine_with g b (with_pin false) ss (λ s. refl) (λ s. refl) (not_mine_in g b ss isnt))))
      e
  same_after Halted e = same_for g ss
