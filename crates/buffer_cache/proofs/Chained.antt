-- The chains of the buffers.
use Rattle.buffer_cache.proofs.Vocabulary.{◌≡◌, inl, inr, ℕ, zero, suc, ◌+◌, ◌-◌, ◌%◌, ◌<◌, ◌≤◌, List, [], ◌∷◌, ◌++◌, length, length-set, get_or, set, map, Bool, true, false, cond, refl, sym, ◌∙◌, ap, subst, arith, ◌==◌, if◌then◌else◌, nat_lt, Option, Some, None, position, range_with_len, cases_lt, nat_tests, get_or-set_same, get_or-set_other, map-set, get_or-map, map-set_same, change_first, count_of, is_same, numbered, SeatState, has_block, seat_of, with_holder, without_holder, unused, unused_from, IsPath, follow, IsRing, head_of, block_in, head_behind, AreGrouped, IsChained, get_of, Got}
use Rattle.buffer_cache.proofs.Basics.{pick, position_some, first_passes, length-change_first, is_block, get_out, get_in, placed_first}
use Rattle.buffer_cache.proofs.Rings.{AreApart, count_here, count_join, absent_first, absent_rest, Stands, stands, path_split, ring_has, ring_apart, ring_again, Unlinked, Linked, linked}

is_slot : (k : ℕ) → k < 46 → nat_lt k 46 ≡ true
is_slot k lt = grind (arith, nat_tests)

is_head : (k : ℕ) → 46 ≤ k → nat_lt k 46 ≡ false
is_head k ge = grind (arith, nat_tests)

slot_is : (k : ℕ) → nat_lt k 46 ≡ true → k < 46
slot_is k e = grind (arith, nat_tests)

head_is : (k : ℕ) → nat_lt k 46 ≡ false → 46 ≤ k
head_is k e = grind (arith, nat_tests)

is_equal : (m n : ℕ) → (m == n) ≡ true → m ≡ n
is_equal m n e = grind (arith, nat_tests)

behind_slot : (h n : ℕ) → n < 46 → head_behind h n ≡ h
behind_slot h n lt = ap (λ (t : Bool). if t then h else n) (is_slot n lt)

behind_head : (h n : ℕ) → 46 ≤ n → head_behind h n ≡ n
behind_head h n ge = ap (λ (t : Bool). if t then h else n) (is_head n ge)

-- a list of chains, at a head in it
grouped_at : (blocks : List (Option ℕ)) (a : ℕ) (front : List ℕ) (h : ℕ) (back : List ℕ) → 46 ≤ h → AreGrouped blocks a (front ++ h ∷ back) → AreGrouped blocks a front × AreGrouped blocks h back
grouped_at blocks a [] h back ge all = (tt, subst (λ (k : ℕ). AreGrouped blocks k back) (behind_head a h ge) all.1)
grouped_at blocks a (n ∷ ns) h back ge all = let rest = grouped_at blocks (head_behind a n) ns h back ge all.1 in ((all.0, rest.0), rest.1)

-- one buffer less
grouped_out : (blocks : List (Option ℕ)) (a : ℕ) (front : List ℕ) (n : ℕ) (back : List ℕ) → n < 46 → AreGrouped blocks a (front ++ n ∷ back) → AreGrouped blocks a (front ++ back)
grouped_out blocks a [] n back lt all = subst (λ (k : ℕ). AreGrouped blocks k back) (behind_slot a n lt) all.1
grouped_out blocks a (m ∷ ms) n back lt all = (all.0, grouped_out blocks (head_behind a m) ms n back lt all.1)

-- another block in a buffer that isn't there
grouped_else : (blocks : List (Option ℕ)) (a : ℕ) (ns : List ℕ) (n : ℕ) (v : Option ℕ) → count_of (is_same n) ns ≡ 0 → AreGrouped blocks a ns → AreGrouped (set blocks n v) a ns
grouped_else blocks a [] n v none all = tt
grouped_else blocks a (m ∷ ms) n v none all = (
  λ lt. ap head_of (get_or-set_other blocks n m v None (absent_first n m ms none)) ∙ all.0 lt,
  grouped_else blocks (head_behind a m) ms n v (absent_rest n m ms none) all.1,
)

-- one buffer more, in the chain of its block
grouped_in : (blocks : List (Option ℕ)) (a : ℕ) (front : List ℕ) (h n : ℕ) (back : List ℕ) → 46 ≤ h → n < 46 → head_of (block_in blocks n) ≡ h → AreGrouped blocks a (front ++ h ∷ back) → AreGrouped blocks a (front ++ h ∷ n ∷ back)
grouped_in blocks a [] h n back ge lt is all =
    let behind = subst (λ (k : ℕ). AreGrouped blocks k back) (behind_head a h ge) all.1 in (
      λ less. absurd (omega (arith, less, ge)),
      subst (λ (k : ℕ). AreGrouped blocks k (n ∷ back)) (sym (behind_head a h ge)) (λ _. is, subst (λ (k : ℕ). AreGrouped blocks k back) (sym (behind_slot h n lt)) behind),
    )
grouped_in blocks a (m ∷ ms) h n back ge lt is all = (all.0, grouped_in blocks (head_behind a m) ms h n back ge lt is all.1)

-- the head of a buffer's chain is before it
head_before : (blocks : List (Option ℕ)) (a k : ℕ) (ns : List ℕ) → k < 46 → 1 ≤ count_of (is_same k) ns → AreGrouped blocks a ns → 1 ≤ count_of (is_same (head_of (block_in blocks k))) (a ∷ ns)
head_before blocks a k [] lt some all = absurd (omega (arith, some))
head_before blocks a k (m ∷ ms) lt some all =
    pick (m == k) (λ t. (m == k) ≡ t → 1 ≤ cond t 1 0 + count_of (is_same k) ms → 1 ≤ count_of (is_same (head_of (block_in blocks k))) (a ∷ m ∷ ms))
    (λ _ e _.
    let same = is_equal m k e in
    let head : head_of (block_in blocks k) ≡ a = subst (λ (j : ℕ). head_of (block_in blocks j) ≡ a) same (all.0 (omega (arith, same, lt))) in
    let here = count_here a (m ∷ ms) in
    subst (λ (j : ℕ). 1 ≤ count_of (is_same j) (a ∷ m ∷ ms)) (sym head) (omega (arith, here)))
    (λ _ _ le. by_kind (λ i. head_before blocks i k ms lt) (nat_lt m 46) refl (omega (arith, le)))
    refl some
  where
    by_kind : ((i : ℕ) → 1 ≤ count_of (is_same k) ms → AreGrouped blocks i ms → 1 ≤ count_of (is_same (head_of (block_in blocks k))) (i ∷ ms)) → (t : Bool) → nat_lt m 46 ≡ t → 1 ≤ count_of (is_same k) ms → 1 ≤ count_of (is_same (head_of (block_in blocks k))) (a ∷ m ∷ ms)
    by_kind before true e le =
        let rest = before a le (subst (λ (j : ℕ). AreGrouped blocks j ms) (behind_slot a m (slot_is m e)) all.1) in
        omega (arith, rest)
    by_kind before false e le =
        let rest = before m le (subst (λ (j : ℕ). AreGrouped blocks j ms) (behind_head a m (head_is m e)) all.1) in
        omega (arith, rest)

-- the buffers that a walk comes by from a number on: as many as steps are left, up to the next head
pub walk : List ℕ → ℕ → ℕ → List ℕ
walk next at zero = []
walk next at (suc left) = if nat_lt (get_or next at 0) 46 then get_or next at 0 ∷ walk next (get_or next at 0) left else []

walk_more : (next : List ℕ) (at n left : ℕ) → get_or next at 0 ≡ n → n < 46 → walk next at (suc left) ≡ n ∷ walk next n left
unfolding walk
walk_more next at n left e lt = subst (λ (m : ℕ). (if nat_lt m 46 then m ∷ walk next m left else []) ≡ n ∷ walk next n left) (sym e) (ap (λ (t : Bool). if t then n ∷ walk next n left else []) (is_slot n lt))

walk_end : (next : List ℕ) (at left : ℕ) → 46 ≤ get_or next at 0 → walk next at (suc left) ≡ []
unfolding walk
walk_end next at left ge = ap (λ (t : Bool). if t then get_or next at 0 ∷ walk next (get_or next at 0) left else []) (is_head (get_or next at 0) ge)

walk_none : (next : List ℕ) (at : ℕ) → walk next at 0 ≡ []
unfolding walk
walk_none next at = refl

abbrev count_slots : List ℕ → ℕ
count_slots ns = count_of (λ n. nat_lt n 46) ns

-- a walk along the chain comes by each of its buffers
chain_has : (x y : List ℕ) (blocks : List (Option ℕ)) (at h : ℕ) (ns : List ℕ) (k left : ℕ) → IsPath x y (at ∷ ns) 59 → AreGrouped blocks h ns → count_of (is_same h) ns ≡ 0 → 1 ≤ count_of (is_same k) ns → k < 46
    → head_of (block_in blocks k) ≡ h → count_slots ns ≤ left → 1 ≤ count_of (is_same k) (walk x at left)
chain_has x y blocks at h [] k left path all none some lt is few = absurd (omega (arith, some))
chain_has x y blocks at h (m ∷ ms) k left path all none some lt is few = by_kind (λ j. chain_has x y blocks m h ms k j path.2) (nat_lt m 46) refl
  where
    by_step : ((j : ℕ) → AreGrouped blocks h ms → count_of (is_same h) ms ≡ 0 → 1 ≤ count_of (is_same k) ms → k < 46 → head_of (block_in blocks k) ≡ h → count_slots ms ≤ j → 1 ≤ count_of (is_same k) (walk x m j)) → (j : ℕ) → m < 46 → cond true 1 0 + count_slots ms ≤ j → 1 ≤ count_of (is_same k) (walk x at j)
    by_step rest_has zero slot le = absurd (omega (arith, le))
    by_step rest_has (suc j) slot le =
        subst (λ (l : List ℕ). 1 ≤ count_of (is_same k) l) (sym (walk_more x at m j path.0 slot))
        (pick (m == k) (λ t. (m == k) ≡ t → 1 ≤ cond t 1 0 + count_of (is_same k) ms → 1 ≤ cond t 1 0 + count_of (is_same k) (walk x m j))
        (λ _ _ _. omega arith)
        (λ _ _ there.
        let rest = rest_has j (subst (λ (i : ℕ). AreGrouped blocks i ms) (behind_slot h m slot) all.1) (absent_rest h m ms none) (omega (arith, there)) lt is (omega (arith, le)) in
        omega (arith, rest))
        refl some)

    by_kind : ((j : ℕ) → AreGrouped blocks h ms → count_of (is_same h) ms ≡ 0 → 1 ≤ count_of (is_same k) ms → k < 46 → head_of (block_in blocks k) ≡ h → count_slots ms ≤ j → 1 ≤ count_of (is_same k) (walk x m j)) → (t : Bool) → nat_lt m 46 ≡ t → 1 ≤ count_of (is_same k) (walk x at left)
    by_kind rest_has true e = by_step rest_has left (slot_is m e) (subst (λ (t : Bool). cond t 1 0 + count_slots ms ≤ left) e few)
    by_kind rest_has false e =
        let ge = head_is m e in
        let there : 1 ≤ count_of (is_same k) ms =
        pick (m == k) (λ t. (m == k) ≡ t → 1 ≤ cond t 1 0 + count_of (is_same k) ms → 1 ≤ count_of (is_same k) ms)
        (λ _ same _. let eq = is_equal m k same in absurd (omega (arith, eq, ge, lt)))
        (λ _ _ le. omega (arith, le))
        refl some in
        let before = head_before blocks m k ms lt there (subst (λ (i : ℕ). AreGrouped blocks i ms) (behind_head h m ge) all.1) in
        let clash : 1 ≤ count_of (is_same h) (m ∷ ms) = subst (λ (i : ℕ). 1 ≤ count_of (is_same i) (m ∷ ms)) is before in
        absurd (omega (arith, clash, none))

block_read : (seats : List SeatState) (k : ℕ) → block_in (map (λ (s : SeatState). s.block) seats) k ≡ (numbered seats k).block
block_read seats k = get_or-map (λ (s : SeatState). s.block) seats k (unused k)

-- the buffers that pass are yet to come
pub record IsSeeking (p : SeatState → Bool) (seats : List SeatState) (next : List ℕ) (at left : ℕ) : Type 0 where
  pub here : at < 60
  pub holds : (k : ℕ) → k < 46 → p (numbered seats k) ≡ true → 1 ≤ count_of (is_same k) (walk next at left)

pub seek_begun : (seats : List SeatState) (x y chains : List ℕ) (b : ℕ) → IsRing 59 x y → follow x 59 59 ≡ chains → IsChained seats chains → IsSeeking (has_block b) seats x (head_of (Some b)) 46
seek_begun seats x y chains b ring is chained = record { here = omega (arith, below); holds = holds }
  where
    h : ℕ
    h = 46 + b % 13

    below : b % 13 < 13
    below = omega arith

    at : Stands h (follow x 59 59)
    at = stands h (follow x 59 59) (ring_has 59 x y h ring (omega (arith, below)))

    blocks : List (Option ℕ)
    blocks = map (λ (s : SeatState). s.block) seats

    path : IsPath x y (h ∷ at.back) 59
    path = (path_split x y (59 ∷ at.front) (h ∷ at.back) 59 (subst (λ (l : List ℕ). IsPath x y (59 ∷ l) 59) at.is ring.path)).1

    apart : AreApart (59 ∷ at.front ++ h ∷ at.back)
    apart = subst (λ (l : List ℕ). AreApart (59 ∷ l)) at.is (ring_apart 59 x y ring)

    grouped : AreGrouped blocks 59 at.front × AreGrouped blocks h at.back
    grouped = grouped_at blocks 59 at.front h at.back (omega arith) (subst (λ (l : List ℕ). AreGrouped blocks 59 l) (sym is ∙ at.is) chained.grouped)

    slots : count_slots at.back ≤ 46
    slots =
        let each = ring.each (λ n. nat_lt n 46) in
        let all : count_slots (range_with_len 0 59) ≡ 46 = refl in
        let join = ap count_slots at.is in
        let two = count_join (λ n. nat_lt n 46) at.front (h ∷ at.back) in
        omega (arith, each, all, join, two)

    holds : (k : ℕ) → k < 46 → has_block b (numbered seats k) ≡ true → 1 ≤ count_of (is_same k) (walk x h 46)
    holds k lt has =
        let block : block_in blocks k ≡ Some b = block_read seats k ∙ is_block b (numbered seats k).block has in
        let head : head_of (block_in blocks k) ≡ h = ap head_of block in
        let there = ring_has 59 x y k ring (omega (arith, lt)) in
        let join = ap (λ (l : List ℕ). count_of (is_same k) l) at.is in
        let two = count_join (is_same k) at.front (h ∷ at.back) in
        let few = apart h in
        let here = count_here h at.back in
        let join_h = count_join (is_same h) (59 ∷ at.front) (h ∷ at.back) in
        let other : (h == k) ≡ false = not_same h k (omega (arith, lt)) in
        let zero_ : ℕ = 0 in
        let skip : cond (h == k) 1 zero_ ≡ zero_ = ap (λ (t : Bool). cond t 1 zero_) other in
        let before : 1 ≤ count_of (is_same k) at.front → ⊥ = λ some. (let clash = subst (λ (i : ℕ). 1 ≤ count_of (is_same i) (59 ∷ at.front)) head (head_before blocks 59 k at.front lt some grouped.0) in omega (arith, clash, few, here, join_h)) in
        let behind : 1 ≤ count_of (is_same k) at.back = elim (cases_lt 0 (count_of (is_same k) at.front)) [
          | inl some ↦ absurd (before (omega (arith, some)))
          | inr none ↦ omega (arith, there, join, two, none, skip)
        ] in
        chain_has x y blocks h h at.back k 46 path grouped.1 (omega (arith, few, here, join_h)) behind lt head slots
      where
        not_same : (m k : ℕ) → k < m → (m == k) ≡ false
        not_same m k lt = grind (arith, nat_tests)

pub record Seeking (p : SeatState → Bool) (seats : List SeatState) (next : List ℕ) (n left : ℕ) : Type 0 where
  pub gone : 46 ≤ n → (k : ℕ) → k < 46 → p (numbered seats k) ≡ true → ⊥
  pub on : n < 46 → p (numbered seats n) ≡ false → IsSeeking p seats next n left

seek_on : (p : SeatState → Bool) (seats : List SeatState) (x : List ℕ) (at left : ℕ) → IsSeeking p seats x at (suc left) → Seeking p seats x (get_or x at 0) left
seek_on p seats x at left is = record {
  gone = λ ge k lt passes. (let some = subst (λ (l : List ℕ). 1 ≤ count_of (is_same k) l) (walk_end x at left ge) (is.holds k lt passes) in omega (arith, some));
  on = λ lt isnt. record {
    here = omega (arith, lt);
    holds = λ k less passes.
        (let some = subst (λ (l : List ℕ). 1 ≤ count_of (is_same k) l) (walk_more x at n left refl lt) (is.holds k less passes) in
        pick (n == k) (λ t. (n == k) ≡ t → 1 ≤ cond t 1 0 + count_of (is_same k) (walk x n left) → 1 ≤ count_of (is_same k) (walk x n left))
        (λ _ e _. let clash : false ≡ true = sym isnt ∙ ap (λ (j : ℕ). p (numbered seats j)) (is_equal n k e) ∙ passes in absurd (cc clash))
        (λ _ _ le. omega (arith, le))
        refl some);
  };
}
  where
    n : ℕ
    n = get_or x at 0

pub seeks_on : (p : SeatState → Bool) (seats : List SeatState) (x : List ℕ) (at past : ℕ) → past < 46 → IsSeeking p seats x at (46 - past) → Seeking p seats x (get_or x at 0) (46 - (past + 1))
seeks_on p seats x at past lt is =
    let e : 46 - past ≡ suc (46 - (past + 1)) = omega arith in
    seek_on p seats x at (46 - (past + 1)) (subst (λ (k : ℕ). IsSeeking p seats x at k) e is)

-- none has it
pub sought : (p : SeatState → Bool) (seats : List SeatState) → length seats ≡ 46 → ((k : ℕ) → k < 46 → p (numbered seats k) ≡ true → ⊥) → None ≡ position p seats
sought p seats count none = by_place (position p seats) refl
  where
    by_place : (o : Option ℕ) → position p seats ≡ o → None ≡ position p seats
    by_place None e = sym e
    by_place (Some n) e =
        let at = position_some p seats n e in
        let lt = at.1 in
        absurd (none n (omega (arith, lt, count)) (first_passes p seats (numbered seats n) (placed_first seats p n e)))

pub sought_all : (p : SeatState → Bool) (seats : List SeatState) (x : List ℕ) (at left : ℕ) → length seats ≡ 46 → left ≡ 0 → IsSeeking p seats x at left → None ≡ position p seats
sought_all p seats x at zero count e is = sought p seats count (λ k lt passes. let some = subst (λ (l : List ℕ). 1 ≤ count_of (is_same k) l) (walk_none x at) (is.holds k lt passes) in omega (arith, some))
sought_all p seats x at (suc left) count e is = absurd (omega (arith, e))

-- after the links were changed so
pub record MovedTo (x y : List ℕ) (n h : ℕ) (x1 y1 x2 y2 : List ℕ) : Type 0 where
  pub behind : get_or x1 h 0 < 60
  pub ring : IsRing 59 x2 y2
  pub grouped : (blocks : List (Option ℕ)) (v : Option ℕ) → n < length blocks → head_of v ≡ h → AreGrouped blocks 59 (follow x 59 59) → AreGrouped (set blocks n v) 59 (follow x2 59 59)

pub moved_to : (x y : List ℕ) (n h : ℕ) (x1 y1 x2 y2 : List ℕ) → IsRing 59 x y → Unlinked 59 x y n x1 y1 → length x1 ≡ 60 → length y1 ≡ 60 → n < 46 → 46 ≤ h → h < 59
    → x2 ≡ set (set x1 h n) n (get_or x1 h 0) → y2 ≡ set (set y1 n h) (get_or x1 h 0) n → MovedTo x y n h x1 y1 x2 y2
moved_to x y n h x1 y1 x2 y2 ring out long_x long_y lt ge below x_is y_is = record {
  behind = in_.behind;
  ring = again.0;
  grouped = λ blocks v within is all.
      let was : AreGrouped blocks 59 (out.front ++ n ∷ out.back) = subst (λ (l : List ℕ). AreGrouped blocks 59 l) out.was all in
      let rest : AreGrouped (set blocks n v) 59 (out.front ++ out.back) = grouped_else blocks 59 (out.front ++ out.back) n v (let none = out.absent in omega (arith, none)) (grouped_out blocks 59 out.front n out.back lt was) in
      let head : head_of (block_in (set blocks n v) n) ≡ h = ap head_of (get_or-set_same blocks n v None within) ∙ is in
      subst (λ (l : List ℕ). AreGrouped (set blocks n v) 59 l) (sym again.1)
      (grouped_in (set blocks n v) 59 at.front h n at.back ge lt head (subst (λ (l : List ℕ). AreGrouped (set blocks n v) 59 l) at.is rest));
}
  where
    there : 1 ≤ count_of (is_same h) (out.front ++ out.back)
    there =
        let has = ring_has 59 x y h ring below in
        let was = ap (λ (l : List ℕ). count_of (is_same h) l) out.was in
        let a = count_join (is_same h) out.front (n ∷ out.back) in
        let b = count_join (is_same h) out.front out.back in
        let zero_ : ℕ = 0 in
        let skip : cond (n == h) 1 zero_ ≡ zero_ = ap (λ (t : Bool). cond t 1 zero_) (not_same n h (omega (arith, lt, ge))) in
        omega (arith, has, was, a, b, skip)
      where
        not_same : (m k : ℕ) → m < k → (m == k) ≡ false
        not_same m k less = grind (arith, nat_tests)

    at : Stands h (out.front ++ out.back)
    at = stands h (out.front ++ out.back) there

    in_ : Linked 59 x1 y1 n h (59 ∷ at.front) at.back x2 y2
    in_ = linked 59 x y n x1 y1 h (59 ∷ at.front) at.back x2 y2 out (ap (λ (l : List ℕ). 59 ∷ l) at.is) long_x long_y (omega (arith, lt)) x_is y_is

    each : (p : ℕ → Bool) → count_of p (at.front ++ h ∷ n ∷ at.back) ≡ count_of p (range_with_len 0 59)
    each p =
        let a = count_join p at.front (h ∷ n ∷ at.back) in
        let b = count_join p at.front (h ∷ at.back) in
        let c = ap (λ (l : List ℕ). count_of p l) at.is in
        let d = count_join p out.front (n ∷ out.back) in
        let e = count_join p out.front out.back in
        let f = ap (λ (l : List ℕ). count_of p l) out.was in
        let g = ring.each p in
        omega (arith, a, b, c, d, e, f, g)

    again : IsRing 59 x2 y2 × (follow x2 59 59 ≡ at.front ++ h ∷ n ∷ at.back)
    again = ring_again 59 x2 y2 (at.front ++ h ∷ n ∷ at.back) in_.path each

-- no buffer has a block
none_from : (n count k : ℕ) → block_in (map (λ (s : SeatState). s.block) (unused_from n count)) k ≡ None
unfolding unused_from
none_from n zero k = refl
none_from n (suc count) zero = refl
none_from n (suc count) (suc k) = none_from (n + 1) count k

grouped_from : (blocks : List (Option ℕ)) (a n head : ℕ) → ((k : ℕ) → block_in blocks k ≡ None) → (a < 46 → head ≡ 59) → AreGrouped blocks head (range_with_len a n)
grouped_from blocks a zero head none is = tt
grouped_from blocks a (suc n) head none is = (
  λ lt. ap head_of (none a) ∙ sym (is lt),
  grouped_from blocks (a + 1) n (head_behind head a) none (λ lt. let slot : a < 46 = omega (arith, lt) in behind_slot head a slot ∙ is slot),
)

length_unused : (n count : ℕ) → length (unused_from n count) ≡ count
unfolding unused_from
length_unused n zero = refl
length_unused n (suc count) = ap suc (length_unused (n + 1) count)

pub chained_new : (chains : List ℕ) → chains ≡ range_with_len 0 59 → IsChained (unused_from 0 46) chains
chained_new chains is = record {
  count = length_unused 0 46;
  grouped = subst (λ (l : List ℕ). AreGrouped (map (λ (s : SeatState). s.block) (unused_from 0 46)) 59 l) (sym is)
      (grouped_from (map (λ (s : SeatState). s.block) (unused_from 0 46)) 0 59 59 (none_from 0 46) (λ _. refl));
}

-- if each buffer keeps its block, the chains stay right
pub chained_same : (seats new : List SeatState) (chains : List ℕ) → length new ≡ length seats → map (λ (s : SeatState). s.block) new ≡ map (λ (s : SeatState). s.block) seats → IsChained seats chains → IsChained new chains
chained_same seats new chains long same chained = record {
  count = long ∙ chained.count;
  grouped = subst (λ (l : List (Option ℕ)). AreGrouped l 59 chains) (sym same) chained.grouped;
}

map_first : (p : SeatState → Bool) (f : SeatState → SeatState) (seats : List SeatState) → ((s : SeatState) → (f s).block ≡ s.block) → map (λ (s : SeatState). s.block) (change_first p f seats) ≡ map (λ (s : SeatState). s.block) seats
map_first p f [] keeps = refl
map_first p f (s ∷ ss) keeps =
    pick (p s) (λ t. map (λ (s : SeatState). s.block) (if t then f s ∷ ss else s ∷ change_first p f ss) ≡ s.block ∷ map (λ (s : SeatState). s.block) ss)
    (λ _. ap (λ (n : Option ℕ). n ∷ map (λ (s : SeatState). s.block) ss) (keeps s))
    (λ _. ap (λ (l : List (Option ℕ)). s.block ∷ l) (map_first p f ss keeps))

pub chained_first : (seats : List SeatState) (chains : List ℕ) (p : SeatState → Bool) (f : SeatState → SeatState) → ((s : SeatState) → (f s).block ≡ s.block) → IsChained seats chains → IsChained (change_first p f seats) chains
chained_first seats chains p f keeps = chained_same seats (change_first p f seats) chains (length-change_first p f seats) (map_first p f seats keeps)

pub chained_set : (seats : List SeatState) (chains : List ℕ) (n : ℕ) (y : SeatState) → y.block ≡ (numbered seats n).block → IsChained seats chains → IsChained (set seats n y) chains
chained_set seats chains n y keeps = chained_same seats (set seats n y) chains (length-set seats n y) (map-set_same (λ (s : SeatState). s.block) seats n y (unused n) keeps)

pub chained_lent : (seats new : List SeatState) (chains : List ℕ) (hart b : ℕ) (i : ℕ) (got : Got) → position (has_block b) seats ≡ Some i → (new, got) ≡ get_of hart b seats → IsChained seats chains → IsChained new chains
chained_lent seats new chains hart b i got at gives chained = by_holder (numbered seats i).holder refl
  where
    P : List SeatState × Got → Type 0
    P w = IsChained w.0 chains

    first : seat_of b seats ≡ Some (numbered seats i)
    first = placed_first seats (has_block b) i at

    by_holder : (h : Option ℕ) → (numbered seats i).holder ≡ h → IsChained new chains
    by_holder None none = subst P (sym (gives ∙ get_in hart b seats (numbered seats i) first none)) (chained_first seats chains (has_block b) (with_holder hart) (λ _. refl) chained)
    by_holder (Some other) out = subst P (sym (gives ∙ get_out hart b other seats (numbered seats i) first out)) chained

-- a buffer with another block, in its chain
pub chained_anew : (seats new : List SeatState) (chains chains_new : List ℕ) (n : ℕ) (y : SeatState) (v : Option ℕ) → IsChained seats chains → new ≡ set seats n y → y.block ≡ v
    → AreGrouped (set (map (λ (s : SeatState). s.block) seats) n v) 59 chains_new → IsChained new chains_new
chained_anew seats new chains chains_new n y v chained is block grouped = subst (λ (l : List SeatState). IsChained l chains_new) (sym is) (record {
  count = length-set seats n y ∙ chained.count;
  grouped = subst (λ (l : List (Option ℕ)). AreGrouped l 59 chains_new) (ap (λ (o : Option ℕ). set (map (λ (s : SeatState). s.block) seats) n o) (sym block) ∙ sym (map-set (λ (s : SeatState). s.block) seats n y)) grouped;
})

pub chained_with : (seats new : List SeatState) (chains : List ℕ) (p : SeatState → Bool) (f : SeatState → SeatState) → ((s : SeatState) → (f s).block ≡ s.block) → new ≡ change_first p f seats → IsChained seats chains → IsChained new chains
chained_with seats new chains p f keeps is chained = subst (λ (l : List SeatState). IsChained l chains) (sym is) (chained_first seats chains p f keeps chained)

pub chained_back : (seats new : List SeatState) (chains : List ℕ) (n : ℕ) → new ≡ set seats n (without_holder (numbered seats n)) → IsChained seats chains → IsChained new chains
chained_back seats new chains n is chained = subst (λ (l : List SeatState). IsChained l chains) (sym is) (chained_set seats chains n (without_holder (numbered seats n)) refl chained)
