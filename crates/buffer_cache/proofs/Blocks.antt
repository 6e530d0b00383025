-- What a change of one seat does to each block's seat.
use Rattle.buffer_cache.proofs.Vocabulary.{◌≡◌, ◌≢◌, inl, inr, ℕ, ◌+◌, ◌≤◌, List, [], ◌∷◌, ◌++◌, Bool, true, false, cond, not, ◌&&◌, ◌==◌, refl, sym, ◌∙◌, ap, subst, arith, Option, Some, None, is_none, if◌then◌else◌, option_map, option_and_then, unwrap_or, cases_eq, nat_tests, same_Some, none-some, find, block_at, change_first, count_of, SeatState, is_number, has_block, is_free, seat_of, kept, seen_in, with_seat, given_back, without_holder, as_new, AllClean, IsCleanSeat}
use Rattle.buffer_cache.proofs.Firsts.{pick, none_first}

pub equal : (i n : ℕ) → (i == n) ≡ true → i ≡ n
equal i n e = grind (arith, nat_tests)

pub equals : (n : ℕ) → (n == n) ≡ true
equals n = grind (arith, nat_tests)

pub is_block : (b : ℕ) (o : Option ℕ) → is_number b o ≡ true → o ≡ Some b
is_block b None e = absurd (cc e)
is_block b (Some k) e = ap Some (equal k b e)

number_other : (j b k : ℕ) → (j == b) ≡ true → b ≢ k → (j == k) ≡ false
number_other j b k is ne = grind (arith, nat_tests)

pub other_block : (b k : ℕ) (o : Option ℕ) → is_number b o ≡ true → b ≢ k → is_number k o ≡ false
other_block b k None is ne = refl
other_block b k (Some j) is ne = number_other j b k is ne

-- a block's seat has that block
pub seat_has : (b : ℕ) (ss : List SeatState) (s : SeatState) → seat_of b ss ≡ Some s → s.block ≡ Some b
seat_has b [] s e = absurd (cc e)
seat_has b (x ∷ ss) s e =
    pick (has_block b x) (λ t. has_block b x ≡ t → (if t then Some x else seat_of b ss) ≡ Some s → s.block ≡ Some b)
    (λ _ is here. let same : x ≡ s = same_Some x s here in ap (λ (y : SeatState). y.block) (sym same) ∙ is_block b x.block is)
    (λ _ _ here. seat_has b ss s here)
    refl e

-- a change in its place
pub seat_with_other : (b k : ℕ) (f : SeatState → SeatState) (ss : List SeatState) → ((s : SeatState) → (f s).block ≡ s.block) → b ≢ k → seat_of k (with_seat b f ss) ≡ seat_of k ss
seat_with_other b k f [] same ne = refl
seat_with_other b k f (s ∷ ss) same ne =
    pick (has_block b s) (λ t. has_block b s ≡ t → seat_of k (if t then f s ∷ ss else s ∷ with_seat b f ss) ≡ seat_of k (s ∷ ss))
    (λ is _.
    let not_k : has_block k s ≡ false = other_block b k s.block is ne in
    let not_k_then : has_block k (f s) ≡ false = ap (is_number k) (same s) ∙ not_k in
    ap (λ (t : Bool). if t then Some (f s) else seat_of k ss) not_k_then ∙ sym (ap (λ (t : Bool). if t then Some s else seat_of k ss) not_k))
    (λ _ _. pick (has_block k s) (λ t. (if t then Some s else seat_of k (with_seat b f ss)) ≡ (if t then Some s else seat_of k ss)) (λ _. refl) (λ _. seat_with_other b k f ss same ne))
    refl

pub seat_with_here : (b : ℕ) (f : SeatState → SeatState) (ss : List SeatState) → ((s : SeatState) → (f s).block ≡ s.block) → seat_of b (with_seat b f ss) ≡ option_map f (seat_of b ss)
seat_with_here b f [] same = refl
seat_with_here b f (s ∷ ss) same =
    pick (has_block b s) (λ t. has_block b s ≡ t → seat_of b (if t then f s ∷ ss else s ∷ with_seat b f ss) ≡ option_map f (if t then Some s else seat_of b ss))
    (λ is _. ap (λ (t : Bool). if t then Some (f s) else seat_of b ss) (ap (is_number b) (same s) ∙ is))
    (λ isnt _. ap (λ (t : Bool). if t then Some s else seat_of b (with_seat b f ss)) isnt ∙ seat_with_here b f ss same)
    refl

-- a giving back
seat_push : (k : ℕ) (ss : List SeatState) (x : SeatState) → has_block k x ≡ false → seat_of k (ss ++ x ∷ []) ≡ seat_of k ss
seat_push k [] x isnt = ap (λ (t : Bool). if t then Some x else None) isnt
seat_push k (s ∷ ss) x isnt = pick (has_block k s) (λ t. (if t then Some s else seat_of k (ss ++ x ∷ [])) ≡ (if t then Some s else seat_of k ss)) (λ _. refl) (λ _. seat_push k ss x isnt)

seat_last : (k : ℕ) (ss : List SeatState) (x : SeatState) → seat_of k ss ≡ None → has_block k x ≡ true → seat_of k (ss ++ x ∷ []) ≡ Some x
seat_last k [] x none is = ap (λ (t : Bool). if t then Some x else None) is
seat_last k (s ∷ ss) x none is =
    pick (has_block k s) (λ t. (if t then Some s else seat_of k ss) ≡ None → (if t then Some s else seat_of k (ss ++ x ∷ [])) ≡ Some x) (λ _ e. absurd (none-some s (sym e))) (λ _ e. seat_last k ss x e is) none

pub seat_back_other : (b k : ℕ) (ss : List SeatState) → b ≢ k → seat_of k (given_back b ss) ≡ seat_of k ss
seat_back_other b k [] ne = refl
seat_back_other b k (s ∷ ss) ne =
    pick (has_block b s) (λ t. has_block b s ≡ t → seat_of k (if t then ss ++ without_holder s ∷ [] else s ∷ given_back b ss) ≡ seat_of k (s ∷ ss))
    (λ is _.
    let not_k : has_block k s ≡ false = other_block b k s.block is ne in
    seat_push k ss (without_holder s) not_k ∙ sym (ap (λ (t : Bool). if t then Some s else seat_of k ss) not_k))
    (λ _ _. pick (has_block k s) (λ t. (if t then Some s else seat_of k (given_back b ss)) ≡ (if t then Some s else seat_of k ss)) (λ _. refl) (λ _. seat_back_other b k ss ne))
    refl

pub seat_back_here : (b : ℕ) (ss : List SeatState) → count_of (has_block b) ss ≤ 1 → seat_of b (given_back b ss) ≡ option_map without_holder (seat_of b ss)
seat_back_here b [] once = refl
seat_back_here b (s ∷ ss) once =
    pick (has_block b s) (λ t. has_block b s ≡ t → cond t 1 0 + count_of (has_block b) ss ≤ 1 → seat_of b (if t then ss ++ without_holder s ∷ [] else s ∷ given_back b ss) ≡ option_map without_holder (if t then Some s else seat_of b ss))
    (λ is _ le. seat_last b ss (without_holder s) (none_first (has_block b) ss (omega (arith, le))) is)
    (λ isnt _ le. ap (λ (t : Bool). if t then Some s else seat_of b (given_back b ss)) isnt ∙ seat_back_here b ss (omega (arith, le)))
    refl once

-- a free seat taken for a block that none has
pub seat_new_here : (hart b : ℕ) (ss : List SeatState) (s : SeatState) → seat_of b ss ≡ None → find is_free ss ≡ Some s → seat_of b (change_first is_free (as_new hart b) ss) ≡ Some (as_new hart b s)
seat_new_here hart b [] s none e = absurd (none-some s e)
seat_new_here hart b (x ∷ ss) s none e =
    pick (has_block b x) (λ t. has_block b x ≡ t → (if t then Some x else seat_of b ss) ≡ None → seat_of b (change_first is_free (as_new hart b) (x ∷ ss)) ≡ Some (as_new hart b s))
    (λ _ _ none_here. absurd (none-some x (sym none_here)))
    (λ isnt _ none_here.
    pick (is_free x) (λ t. (if t then Some x else find is_free ss) ≡ Some s → seat_of b (if t then as_new hart b x ∷ ss else x ∷ change_first is_free (as_new hart b) ss) ≡ Some (as_new hart b s))
    (λ _ here.
    ap (λ (t : Bool). if t then Some (as_new hart b x) else seat_of b ss) (equals b)
    ∙ ap (λ (y : SeatState). Some (as_new hart b y)) (same_Some x s here))
    (λ _ here. ap (λ (t : Bool). if t then Some x else seat_of b (change_first is_free (as_new hart b) ss)) isnt ∙ seat_new_here hart b ss s none_here here)
    e)
    refl none

-- a seat that isn't free stays
pub seat_new_other : (hart b k : ℕ) (ss : List SeatState) (s : SeatState) → b ≢ k → seat_of k ss ≡ Some s → is_free s ≡ false → seat_of k (change_first is_free (as_new hart b) ss) ≡ Some s
seat_new_other hart b k [] s ne e taken = absurd (none-some s e)
seat_new_other hart b k (x ∷ ss) s ne e taken =
    pick (is_free x) (λ t. is_free x ≡ t → seat_of k (if t then as_new hart b x ∷ ss else x ∷ change_first is_free (as_new hart b) ss) ≡ Some s)
    (λ free _.
    ap (λ (t : Bool). if t then Some (as_new hart b x) else seat_of k ss) (different b k ne)
    ∙ pick (has_block k x) (λ t. (if t then Some x else seat_of k ss) ≡ Some s → seat_of k ss ≡ Some s)
    (λ _ here. let clash : false ≡ true = sym taken ∙ ap is_free (sym (same_Some x s here)) ∙ free in absurd (cc clash))
    (λ _ here. here)
    e)
    (λ _ _.
    pick (has_block k x) (λ t. (if t then Some x else seat_of k ss) ≡ Some s → (if t then Some x else seat_of k (change_first is_free (as_new hart b) ss)) ≡ Some s)
    (λ _ here. here)
    (λ _ here. seat_new_other hart b k ss s ne here taken)
    e)
    refl
  where
    different : (b k : ℕ) → b ≢ k → (b == k) ≡ false
    different b k ne = grind (arith, nat_tests)

-- what is seen, by the seat
abbrev pub bytes_or : List ℕ → Option SeatState → List ℕ
bytes_or other o = unwrap_or (option_and_then (λ (s : SeatState). s.content) o) other

pub clean_seen : (disk : List (List ℕ)) (k : ℕ) (s : SeatState) → IsCleanSeat disk s → s.block ≡ Some k → s.pinned ≡ false → bytes_or (block_at disk k) (Some s) ≡ block_at disk k
clean_seen disk k s clean has unpinned = by_content s.content refl
  where
    by_content : (c : Option (List ℕ)) → s.content ≡ c → unwrap_or c (block_at disk k) ≡ block_at disk k
    by_content None e = refl
    by_content (Some bytes) e = clean k bytes has unpinned e

free_unpinned : (p : Bool) (h : Option ℕ) → (not p && is_none h) ≡ true → p ≡ false
free_unpinned true h e = absurd (cc e)
free_unpinned false h e = refl

-- a free seat taken for a block that none has changes nothing that is seen
pub new_seen : (disk : List (List ℕ)) (k hart b : ℕ) (ss : List SeatState) → seat_of b ss ≡ None → count_of (has_block k) ss ≤ 1 → AllClean disk ss
    → seen_in disk (change_first is_free (as_new hart b) ss) k ≡ seen_in disk ss k
new_seen disk k hart b [] none once clean = refl
new_seen disk k hart b (s ∷ ss) none once clean =
    pick (is_free s) (λ t. is_free s ≡ t → bytes_or (block_at disk k) (seat_of k (if t then as_new hart b s ∷ ss else s ∷ change_first is_free (as_new hart b) ss)) ≡ seen_in disk (s ∷ ss) k)
    (λ free _.
    pick (b == k) (λ t. (b == k) ≡ t → bytes_or (block_at disk k) (if t then Some (as_new hart b s) else seat_of k ss) ≡ seen_in disk (s ∷ ss) k)
    (λ is _. sym (ap (bytes_or (block_at disk k)) (ap (λ (j : ℕ). seat_of j (s ∷ ss)) (sym (equal b k is)) ∙ none)))
    (λ isnt _.
    pick (has_block k s) (λ t. has_block k s ≡ t → cond t 1 0 + count_of (has_block k) ss ≤ 1 → bytes_or (block_at disk k) (seat_of k ss) ≡ bytes_or (block_at disk k) (if t then Some s else seat_of k ss))
    (λ has _ le.
    ap (bytes_or (block_at disk k)) (none_first (has_block k) ss (omega (arith, le)))
    ∙ sym (clean_seen disk k s clean.0 (is_block k s.block has) (free_unpinned s.pinned s.holder free)))
    (λ _ _ _. refl)
    refl once)
    refl)
    (λ _ _.
    pick (has_block b s) (λ t. (if t then Some s else seat_of b ss) ≡ None → bytes_or (block_at disk k) (seat_of k (s ∷ change_first is_free (as_new hart b) ss)) ≡ seen_in disk (s ∷ ss) k)
    (λ _ none_here. absurd (none-some s (sym none_here)))
    (λ _ none_here.
    pick (has_block k s) (λ t. cond t 1 0 + count_of (has_block k) ss ≤ 1 → bytes_or (block_at disk k) (if t then Some s else seat_of k (change_first is_free (as_new hart b) ss)) ≡ bytes_or (block_at disk k) (if t then Some s else seat_of k ss))
    (λ _ _. refl)
    (λ _ le. new_seen disk k hart b ss none_here (omega (arith, le)) clean.1)
    once)
    none)
    refl

-- what the cache keeps of each block stays, if the seats' contents do
pub kept_with : (b k : ℕ) (f : SeatState → SeatState) (ss : List SeatState) → ((s : SeatState) → (f s).block ≡ s.block) → ((s : SeatState) → (f s).content ≡ s.content) → kept k (with_seat b f ss) ≡ kept k ss
kept_with b k f ss same content = elim (cases_eq b k) [
  | inl is ↦ subst (λ (j : ℕ). kept j (with_seat b f ss) ≡ kept j ss) is (ap (λ (o : Option SeatState). option_and_then (λ (s : SeatState). s.content) o) (seat_with_here b f ss same) ∙ mapped (seat_of b ss))
  | inr ne ↦ ap (λ (o : Option SeatState). option_and_then (λ (s : SeatState). s.content) o) (seat_with_other b k f ss same ne)
]
  where
    mapped : (o : Option SeatState) → option_and_then (λ (s : SeatState). s.content) (option_map f o) ≡ option_and_then (λ (s : SeatState). s.content) o
    mapped None = refl
    mapped (Some s) = content s

pub kept_back : (b k : ℕ) (ss : List SeatState) → count_of (has_block b) ss ≤ 1 → kept k (given_back b ss) ≡ kept k ss
kept_back b k ss once = elim (cases_eq b k) [
  | inl is ↦ subst (λ (j : ℕ). kept j (given_back b ss) ≡ kept j ss) is (ap (λ (o : Option SeatState). option_and_then (λ (s : SeatState). s.content) o) (seat_back_here b ss once) ∙ mapped (seat_of b ss))
  | inr ne ↦ ap (λ (o : Option SeatState). option_and_then (λ (s : SeatState). s.content) o) (seat_back_other b k ss ne)
]
  where
    mapped : (o : Option SeatState) → option_and_then (λ (s : SeatState). s.content) (option_map without_holder o) ≡ option_and_then (λ (s : SeatState). s.content) o
    mapped None = refl
    mapped (Some s) = refl
