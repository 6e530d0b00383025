-- What a get, a read and a giving back make of the buffers in a hart's own hand.
use Rattle.inodes_on_blocks.proofs.Vocabulary.{◌≡◌, ◌≢◌, ℕ, suc, ◌+◌, ◌≤◌, ◌==◌, Bool, true, false, List, [], ◌∷◌, ◌++◌, Option, Some, None, refl, sym, ap, ◌∙◌, arith, if◌then◌else◌, is_some, cond, option_map, option_and_then, unwrap_or, find, block_at, change_first, change_to_end, get_of, get_by, get_new, guard_of, SeatState, seat_of, holder_of, kept, has_block, is_held_by, with_seat, with_holder, with_content, without_holder, as_new, given_back, Got, seat_new_here, pick, first_passes, seat_changed, seat_of_others, others_given_back, seat_in, LogPart, mine_of, count_first, count_snoc, free_not_held, eq_self, eq_not, if_kept, buffer_in}
use Rattle.buffer_cache.specs.Lists.{count_of}
use Rattle.buffer_cache.specs.Seats.{is_number, is_free}
use Rattle.buffer_cache.specs.declared.got.Got.TheVariants as got

-- ---- counts

-- one of these counts, and the other doesn't
counts_one : (a b : Bool) (n : ℕ) → a ≡ false → b ≡ true → cond b 1 0 + n ≡ suc (cond a 1 0 + n)
counts_one true b n e f = absurd (cc e)
counts_one false true n e f = omega arith
counts_one false false n e f = absurd (cc f)

count_up : {X : Type 0} (q p : X → Bool) (f : X → X) (xs : List X) (x : X) → find p xs ≡ Some x → q x ≡ false → q (f x) ≡ true → count_of q (change_first p f xs) ≡ suc (count_of q xs)
count_up q p f [] x e was is = absurd (cc e)
count_up {X} q p f (y ∷ ys) x e was is =
    pick (p y) (λ t. (if t then Some y else find p ys) ≡ Some x → count_of q (if t then f y ∷ ys else y ∷ change_first p f ys) ≡ suc (count_of q (y ∷ ys)))
    (λ _ here.
    let same : y ≡ x = cc here in
    counts_one (q y) (q (f y)) (count_of q ys) (ap q same ∙ was) (ap (λ (z : X). q (f z)) same ∙ is))
    (λ _ there. let more = count_up q p f ys x there was is in omega (arith, more))
    e

count_down : {X : Type 0} (q p : X → Bool) (f : X → X) (xs : List X) (x : X) → find p xs ≡ Some x → q x ≡ true → q (f x) ≡ false → count_of q xs ≡ suc (count_of q (change_to_end p f xs))
count_down q p f [] x e was is = absurd (cc e)
count_down {X} q p f (y ∷ ys) x e was is =
    pick (p y) (λ t. (if t then Some y else find p ys) ≡ Some x → count_of q (y ∷ ys) ≡ suc (count_of q (if t then ys ++ f y ∷ [] else y ∷ change_to_end p f ys)))
    (λ _ here.
    let same : y ≡ x = cc here in
    let end = count_snoc q ys (f y) in
    let one = counts_one (q (f y)) (q y) (count_of q ys) (ap (λ (z : X). q (f z)) same ∙ is) (ap q same ∙ was) in
    one ∙ ap suc (sym end))
    (λ _ there. let more = count_down q p f ys x there was is in omega (arith, more))
    e

-- ---- a get

-- block b's buffer came into hand, with this, and no other one
pub record CameInHand (h b : ℕ) (old new : List SeatState) (content : Option (List ℕ)) : Type 0 where
  pub count : count_of (is_held_by h) new ≡ suc (count_of (is_held_by h) old)
  pub holder : holder_of b new ≡ Some h
  pub has : kept b new ≡ content
  pub others : (k : ℕ) → k ≢ b → mine_of h (seat_of k new) ≡ mine_of h (seat_of k old)

abbrev pub IfGot : ℕ → ℕ → List SeatState → List SeatState × Got → Type 0
IfGot h b old (new, got.Held guard) = CameInHand h b old new guard.value.content
IfGot h b old (new, got.Waits) = Unit {0}

none_there : (k : ℕ) (xs : List SeatState) → count_of (has_block k) xs ≡ 0 → seat_of k xs ≡ None
none_there k [] e = refl
none_there k (x ∷ xs) e =
    pick (has_block k x) (λ t. cond t 1 0 + count_of (has_block k) xs ≡ 0 → (if t then Some x else seat_of k xs) ≡ None)
    (λ _ z. absurd (omega (arith, z)))
    (λ _ z. none_there k xs (omega (arith, z)))
    e

new_others : (h b k : ℕ) (ss : List SeatState) → k ≢ b → ((j : ℕ) → count_of (has_block j) ss ≤ 1) → mine_of h (seat_of k (change_first is_free (as_new h b) ss)) ≡ mine_of h (seat_of k ss)
new_others h b k [] ne once = refl
new_others h b k (x ∷ xs) ne once =
    pick (is_free x) (λ t. is_free x ≡ t → mine_of h (seat_of k (if t then as_new h b x ∷ xs else x ∷ change_first is_free (as_new h b) xs)) ≡ mine_of h (seat_of k (x ∷ xs)))
    (λ _ free.
    let mine : mine_of h (Some x) ≡ None = ap (λ (t : Bool). if t then Some x.content else None) (free_not_held h x.pinned x.holder free) in
    ap (λ (t : Bool). mine_of h (if t then Some (as_new h b x) else seat_of k xs)) (eq_not b k (λ e. ne (sym e)))
    ∙ pick (has_block k x) (λ t. cond t 1 0 + count_of (has_block k) xs ≤ 1 → mine_of h (seat_of k xs) ≡ mine_of h (if t then Some x else seat_of k xs))
    (λ _ le. ap (mine_of h) (none_there k xs (omega (arith, le))) ∙ sym mine)
    (λ _ le. refl)
    (once k))
    (λ _ _.
    pick (has_block k x) (λ t. mine_of h (if t then Some x else seat_of k (change_first is_free (as_new h b) xs)) ≡ mine_of h (if t then Some x else seat_of k xs))
    (λ _. refl)
    (λ _. new_others h b k xs ne (λ j. (let a = once j in omega (arith, a)))))
    refl

holder_at : (b : ℕ) (ss : List SeatState) (s : SeatState) → seat_of b ss ≡ Some s → holder_of b ss ≡ s.holder
holder_at b ss s e = ap (λ (o : Option SeatState). option_and_then (λ (x : SeatState). x.holder) o) e

kept_at : (b : ℕ) (ss : List SeatState) (s : SeatState) → seat_of b ss ≡ Some s → kept b ss ≡ s.content
kept_at b ss s e = ap (λ (o : Option SeatState). option_and_then (λ (x : SeatState). x.content) o) e

pub got_hand : (h b : ℕ) (ss : List SeatState) → ((j : ℕ) → count_of (has_block j) ss ≤ 1) → IfGot h b ss (get_of h b ss)
unfolding get_of
got_hand h b ss once = by_seat (seat_of b ss) refl
  where
    by_free : seat_of b ss ≡ None → (o : Option SeatState) → find is_free ss ≡ o → IfGot h b ss (get_new h b ss o)
    by_free none None e = tt
    by_free none (Some s) e =
        let at = seat_new_here h b ss s none e in
        record {
          count = count_up (is_held_by h) is_free (as_new h b) ss s e (free_not_held h s.pinned s.holder (first_passes is_free ss s e)) (eq_self h);
          holder = holder_at b (change_first is_free (as_new h b) ss) (as_new h b s) at;
          has = kept_at b (change_first is_free (as_new h b) ss) (as_new h b s) at;
          others = λ k ne. new_others h b k ss ne once;
        }

    by_holder : (s : SeatState) → seat_of b ss ≡ Some s → (o : Option ℕ) → s.holder ≡ o → IfGot h b ss (if is_some o then (ss, got.Waits) else (with_seat b (with_holder h) ss, got.Held (guard_of h b s s.content)))
    by_holder s e (Some g) out = tt
    by_holder s e None free =
        let at : seat_of b (with_seat b (with_holder h) ss) ≡ Some (with_holder h s) = seat_changed b (with_holder h) ss (λ x. refl) ∙ ap (option_map (with_holder h)) e in
        record {
          count = count_up (is_held_by h) (has_block b) (with_holder h) ss s e (ap (is_number h) free) (eq_self h);
          holder = holder_at b (with_seat b (with_holder h) ss) (with_holder h s) at;
          has = kept_at b (with_seat b (with_holder h) ss) (with_holder h s) at;
          others = λ k ne. ap (mine_of h) (seat_of_others b k (with_holder h) ss (λ x. refl) ne);
        }

    by_seat : (o : Option SeatState) → seat_of b ss ≡ o → IfGot h b ss (get_by h b ss o)
    by_seat None e = by_free e (find is_free ss) refl
    by_seat (Some s) e = by_holder s e s.holder refl

-- ---- a read

pub record IsRead (h b : ℕ) (bytes : List ℕ) (old new : List SeatState) : Type 0 where
  pub count : count_of (is_held_by h) new ≡ count_of (is_held_by h) old
  pub holder : holder_of b new ≡ Some h
  pub has : kept b new ≡ Some bytes
  pub others : (k : ℕ) → k ≢ b → mine_of h (seat_of k new) ≡ mine_of h (seat_of k old)

pub read_hand : (h b : ℕ) (bytes : List ℕ) (ss : List SeatState) → holder_of b ss ≡ Some h → IsRead h b bytes ss (with_seat b (with_content bytes) ss)
read_hand h b bytes ss out =
    let s = seat_in h b ss (seat_of b ss) refl out in
    let at : seat_of b (with_seat b (with_content bytes) ss) ≡ Some (with_content bytes s.0) = seat_changed b (with_content bytes) ss (λ x. refl) ∙ ap (option_map (with_content bytes)) s.1 in
    record {
      count = count_first (is_held_by h) (has_block b) (with_content bytes) ss (λ x e. refl);
      holder = holder_at b (with_seat b (with_content bytes) ss) (with_content bytes s.0) at ∙ sym (holder_at b ss s.0 s.1) ∙ out;
      has = kept_at b (with_seat b (with_content bytes) ss) (with_content bytes s.0) at;
      others = λ k ne. ap (mine_of h) (seat_of_others b k (with_content bytes) ss (λ x. refl) ne);
    }

-- ---- a giving back

pub record GivenBack (h b : ℕ) (old new : List SeatState) : Type 0 where
  pub count : count_of (is_held_by h) old ≡ suc (count_of (is_held_by h) new)
  pub others : (k : ℕ) → k ≢ b → mine_of h (seat_of k new) ≡ mine_of h (seat_of k old)

pub back_hand : (h b : ℕ) (ss : List SeatState) → holder_of b ss ≡ Some h → GivenBack h b ss (given_back b ss)
back_hand h b ss out =
    let s = seat_in h b ss (seat_of b ss) refl out in
    let is : s.0.holder ≡ Some h = sym (holder_at b ss s.0 s.1) ∙ out in
    record {
      count = count_down (is_held_by h) (has_block b) without_holder ss s.0 s.1 (ap (is_number h) is ∙ eq_self h) refl;
      others = λ k ne. ap (mine_of h) (others_given_back b k ss ne);
    }

-- ---- what a hart has of a buffer, by its seat

abbrev held_view : Option (Option (List ℕ)) → List ℕ → Option (List ℕ × Bool)
held_view None block = None
held_view (Some content) block = Some (unwrap_or content block, is_some content)

view_is : (g b : ℕ) (l : LogPart) → if_kept (holder_of b l.seats) g (buffer_in l b) ≡ held_view (mine_of g (seat_of b l.seats)) (block_at l.contents b)
view_is g b l = at (seat_of b l.seats)
  where
    by : (s : SeatState) (o : Option ℕ) → if_kept o g (unwrap_or s.content (block_at l.contents b), is_some s.content) ≡ held_view (if is_number g o then Some s.content else None) (block_at l.contents b)
    by s None = refl
    by s (Some k) =
        pick (k == g) (λ t. ◌≡◌ {A = Option (List ℕ × Bool)} (if t then Some (unwrap_or s.content (block_at l.contents b), is_some s.content) else None) (held_view (if t then Some s.content else None) (block_at l.contents b)))
        (λ _. refl) (λ _. refl)

    at : (o : Option SeatState)
        → if_kept (option_and_then (λ (s : SeatState). s.holder) o) g (unwrap_or (option_and_then (λ (s : SeatState). s.content) o) (block_at l.contents b), is_some (option_and_then (λ (s : SeatState). s.content) o))
        ≡ held_view (mine_of g o) (block_at l.contents b)
    at None = refl
    at (Some s) = by s s.holder

pub same_view : (g b : ℕ) (l m : LogPart) → mine_of g (seat_of b m.seats) ≡ mine_of g (seat_of b l.seats) → m.contents ≡ l.contents
    → if_kept (holder_of b m.seats) g (buffer_in m b) ≡ if_kept (holder_of b l.seats) g (buffer_in l b)
same_view g b l m seat contents =
    view_is g b m ∙ ap (λ (o : Option (Option (List ℕ))). held_view o (block_at m.contents b)) seat ∙ ap (λ (d : List (List ℕ)). held_view (mine_of g (seat_of b l.seats)) (block_at d b)) contents ∙ sym (view_is g b l)
