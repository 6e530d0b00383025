-- How the slots go on with their seats.
use Rattle.buffer_cache.proofs.Vocabulary.{◌≡◌, ◌≢◌, ℕ, zero, suc, ◌+◌, ◌<◌, ◌≤◌, List, [], ◌∷◌, length, get_or, set, Bool, true, false, cond, not, ◌&&◌, refl, sym, ◌∙◌, ap, subst, arith, Option, Some, None, IsSome, is_some, is_none, if◌then◌else◌, ◌==◌, slice_get, slice_set, Result, Ok, Err, OnOk, OnErr, MatchOption, position, find, nat_tests, set-get_or, slice_get_within, get_or_from_slice_get, same_Some, none-some, SlotState, GuardState, filled, lock_at, lock_of, unlocked, IsOut, set_same, slice_get-set_same, slice_get-set_other, BufferState, change_first, count_of, SeatState, has_block, is_free, seat_of, kept, with_holder, without_holder, with_content, with_pin, as_new, with_seat, IsHeld, IsGuardOf, has_number, InsideFits, SlotFits, AllSeated, IsSeated, get_of, get_by, get_new, guard_of, Got, Held, Waits}
use Rattle.buffer_cache.proofs.Once.{once_at}
use Rattle.buffer_cache.proofs.Firsts.{pick, place_first, place_change, first_counted, count_same}

abbrev pub Row : Type 0
Row = List (SlotState BufferState)

pub same_number : (n : ℕ) → (n == n) ≡ true
same_number n = grind (arith, nat_tests)

not_equal : (m n : ℕ) → (m == n) ≡ false → m ≢ n
not_equal m n e = grind (arith, nat_tests)

counted_out : (t : Bool) (k : ℕ) → 1 ≤ k → cond t 1 0 + k ≤ 1 → t ≡ false
counted_out true k one le = absurd (omega (arith, one, le))
counted_out false k one le = refl

-- a seat's slot
pub seated_at : (slots : Row) (p : SeatState → Bool) (ss : List SeatState) (s : SeatState) → AllSeated slots ss → find p ss ≡ Some s → SlotFits s (slice_get slots s.number)
seated_at slots p [] s all e = absurd (cc e)
seated_at slots p (t ∷ ts) s all e =
    pick (p t) (λ w. (if w then Some t else find p ts) ≡ Some s → SlotFits s (slice_get slots s.number))
    (λ _ here. subst (λ u. SlotFits u (slice_get slots u.number)) (same_Some t s here) all.0)
    (λ _ here. seated_at slots p ts s all.1 here)
    e

pub slot_at : (slots : Row) (ss : List SeatState) (i : ℕ) (s : SeatState) → slice_get ss i ≡ Some s → AllSeated slots ss → SlotFits s (slice_get slots s.number)
slot_at slots [] i s at all = absurd (none-some s at)
slot_at slots (t ∷ ts) zero s at all = subst (λ (u : SeatState). SlotFits u (slice_get slots u.number)) (same_Some t s at) all.0
slot_at slots (t ∷ ts) (suc i) s at all = slot_at slots ts i s at all.1

pub slot_within : (slots : Row) (s : SeatState) → SlotFits s (slice_get slots s.number) → s.number < length slots
slot_within slots s fits = by_slot (slice_get slots s.number) refl fits
  where
    by_slot : (o : Option (SlotState BufferState)) → slice_get slots s.number ≡ o → SlotFits s o → s.number < length slots
    by_slot None e f = absurd f
    by_slot (Some x) e f = slice_get_within slots s.number x e

slot_is : (n m : ℕ) (i j : Option BufferState) (h k : Option ℕ) → n ≡ m → i ≡ j → h ≡ k → ◌≡◌ {A = SlotState BufferState} (record { number = n; inside = i; holder = h }) (record { number = m; inside = j; holder = k })
slot_is n m i j h k a b c = cc

-- the buffer is in
pub slot_in : (s : SeatState) (o : Option (SlotState BufferState)) → SlotFits s o → s.holder ≡ None → (v : BufferState) × (o ≡ Some (filled s.number v)) × (v.content ≡ s.content)
slot_in s None fits none = absurd fits
slot_in s (Some x) fits none = by_inside x.inside refl (subst (λ (h : Option ℕ). InsideFits s.content h x.inside) none fits.2)
  where
    by_inside : (i : Option BufferState) → x.inside ≡ i → InsideFits s.content None i → (v : BufferState) × (Some x ≡ Some (filled s.number v)) × (v.content ≡ s.content)
    by_inside None e f = absurd f
    by_inside (Some v) e f = (v, ap (λ (w : SlotState BufferState). Some w) (slot_is x.number s.number x.inside (Some v) x.holder None fits.0 e (fits.1 ∙ none)), f)

-- the buffer is out
pub slot_out : (s : SeatState) (o : Option (SlotState BufferState)) (hart : ℕ) → SlotFits s o → s.holder ≡ Some hart → o ≡ Some (record { number = s.number; inside = None; holder = Some hart })
slot_out s None hart fits out = absurd fits
slot_out s (Some x) hart fits out = by_inside x.inside refl (subst (λ (h : Option ℕ). InsideFits s.content h x.inside) out fits.2)
  where
    by_inside : (i : Option BufferState) → x.inside ≡ i → InsideFits s.content (Some hart) i → Some x ≡ Some (record { number = s.number; inside = None; holder = Some hart })
    by_inside None e f = ap (λ (w : SlotState BufferState). Some w) (slot_is x.number s.number x.inside None x.holder (Some hart) fits.0 e (fits.1 ∙ out))
    by_inside (Some v) e f = absurd f

-- a slot's change is not seen by the other seats
seated_others : (slots : Row) (ss : List SeatState) (n : ℕ) (y : SlotState BufferState) → count_of (has_number n) ss ≡ 0 → AllSeated slots ss → AllSeated (slice_set slots n y) ss
seated_others slots [] n y none all = tt
seated_others slots (s ∷ ss) n y none all =
    pick (has_number n s) (λ t. has_number n s ≡ t → cond t 1 0 + count_of (has_number n) ss ≡ 0 → SlotFits s (slice_get (slice_set slots n y) s.number) × AllSeated (slice_set slots n y) ss)
    (λ _ _ z. absurd (omega (arith, z)))
    (λ _ isnt z. (
      subst (λ o. SlotFits s o) (sym (slice_get-set_other slots n s.number y (not_equal s.number n isnt))) all.0,
      seated_others slots ss n y (omega (arith, z)) all.1,
    ))
    refl none

-- the seat that is changed, in its changed slot
seated_here : (slots : Row) (f : SeatState → SeatState) (t s : SeatState) (y : SlotState BufferState) → t ≡ s → (f s).number ≡ s.number → SlotFits (f s) (Some y) → s.number < length slots
    → SlotFits (f t) (slice_get (slice_set slots s.number y) (f t).number)
seated_here slots f t s y is keeps fits within =
    let at : slice_get (slice_set slots s.number y) (f s).number ≡ Some y = ap (slice_get (slice_set slots s.number y)) keeps ∙ slice_get-set_same slots s.number y within in
    subst (λ u. SlotFits (f u) (slice_get (slice_set slots s.number y) (f u).number)) (sym is) (subst (λ o. SlotFits (f s) o) (sym at) fits)

others_none : (n : ℕ) (t s : SeatState) (k : ℕ) → t ≡ s → s.number ≡ n → cond (has_number n t) 1 0 + k ≤ 1 → k ≡ 0
others_none n t s k is at le =
    let has : has_number n t ≡ true = ap (λ (u : SeatState). has_number n u) is ∙ ap (λ (m : ℕ). m == n) at ∙ same_number n in
    let few : cond true 1 0 + k ≤ 1 = subst (λ (w : Bool). cond w 1 0 + k ≤ 1) has le in
    omega (arith, few)

pub seated_change : (slots : Row) (p : SeatState → Bool) (f : SeatState → SeatState) (ss : List SeatState) (s : SeatState) (y : SlotState BufferState)
    → find p ss ≡ Some s → (f s).number ≡ s.number → SlotFits (f s) (Some y) → s.number < length slots → count_of (has_number s.number) ss ≤ 1 → AllSeated slots ss
    → AllSeated (slice_set slots s.number y) (change_first p f ss)
seated_change slots p f [] s y e keeps fits within apart all = tt
seated_change slots p f (t ∷ ts) s y e keeps fits within apart all =
    pick (p t) (λ w. (if w then Some t else find p ts) ≡ Some s → AllSeated (slice_set slots s.number y) (if w then f t ∷ ts else t ∷ change_first p f ts))
    (λ _ here.
    let is = same_Some t s here in
    (seated_here slots f t s y is keeps fits within, seated_others slots ts s.number y (others_none s.number t s _ is refl apart) all.1))
    (λ _ here.
    let more = first_counted (has_number s.number) p ts s here (same_number s.number) in
    let isnt = counted_out (has_number s.number t) _ more apart in (
      subst (λ o. SlotFits t o) (sym (slice_get-set_other slots s.number t.number y (not_equal t.number s.number isnt))) all.0,
      seated_change slots p f ts s y here keeps fits within (omega (arith, apart)) all.1,
    ))
    e

-- a change of the seat alone
seated_same : (slots : Row) (p : SeatState → Bool) (f : SeatState → SeatState) (ss : List SeatState)
    → ((s : SeatState) → find p ss ≡ Some s → SlotFits s (slice_get slots s.number) → SlotFits (f s) (slice_get slots (f s).number)) → AllSeated slots ss → AllSeated slots (change_first p f ss)
seated_same slots p f [] new all = tt
seated_same slots p f (t ∷ ts) new all =
    pick (p t) (λ w. ((s : SeatState) → (if w then Some t else find p ts) ≡ Some s → SlotFits s (slice_get slots s.number) → SlotFits (f s) (slice_get slots (f s).number))
    → AllSeated slots (if w then f t ∷ ts else t ∷ change_first p f ts))
    (λ _ k. (k t refl all.0, all.1))
    (λ _ k. (all.0, seated_same slots p f ts k all.1))
    new

apart_change : (p : SeatState → Bool) (f : SeatState → SeatState) (ss : List SeatState) → ((s : SeatState) → (f s).number ≡ s.number) → ((n : ℕ) → count_of (has_number n) ss ≤ 1) → (n : ℕ) → count_of (has_number n) (change_first p f ss) ≤ 1
apart_change p f ss keeps apart n =
    let a = count_same (has_number n) p f ss (λ s _ e. ap (λ (m : ℕ). m == n) (sym (keeps s)) ∙ e) in
    omega (arith, a, apart n)

-- the lock of a slot with this buffer in it, and of one that gave it away
lock_in : (slots : Row) (n hart : ℕ) (v : BufferState) → slice_get slots n ≡ Some (filled n v)
    → lock_of slots n hart ≡ (slice_set slots n (record { number = n; inside = None; holder = Some hart }), Some (record { number = n; hart = hart; value = v }))
unfolding lock_of
lock_in slots n hart v e = ap (lock_at slots n hart) e

lock_out : (slots : Row) (n hart other : ℕ) → slice_get slots n ≡ Some (record { number = n; inside = None; holder = Some other }) → lock_of slots n hart ≡ (slots, None)
unfolding lock_of
lock_out slots n hart other e =
    ap (lock_at slots n hart) e ∙ ap (λ (w : Row). let r : Row × Option (GuardState BufferState) = (w, None) in r) (set_same slots n _ e)

-- what a get answers
pub get_free : (hart b : ℕ) (ss : List SeatState) (s : SeatState) → seat_of b ss ≡ None → find is_free ss ≡ Some s → get_of hart b ss ≡ (change_first is_free (as_new hart b) ss, Held (guard_of hart b s None))
unfolding get_of
get_free hart b ss s none e = ap (get_by hart b ss) none ∙ ap (get_new hart b ss) e

-- a buffer that a get found, in the hand or out
abbrev pub LendGives : Row → List SeatState → ℕ → ℕ → ℕ → SeatState → Option (GuardState BufferState) → Type 0
LendGives slots ss i hart b s None = ((set ss i s, Waits) ≡ get_of hart b ss) × IsSeated slots (set ss i s)
LendGives slots ss i hart b s (Some g) =
    ((set ss i (with_holder hart s), Held (record { number = g.number; hart = g.hart; value = record { block = b; content = g.value.content } })) ≡ get_of hart b ss)
    × IsSeated slots (set ss i (with_holder hart s))

pub get_out : (hart b other : ℕ) (ss : List SeatState) (s : SeatState) → seat_of b ss ≡ Some s → s.holder ≡ Some other → get_of hart b ss ≡ (ss, Waits)
unfolding get_of
get_out hart b other ss s e out =
    ap (get_by hart b ss) e ∙ ap (λ (h : Option ℕ). if is_some h then (ss, Waits) else (with_seat b (with_holder hart) ss, Held (guard_of hart b s s.content))) out

pub get_in : (hart b : ℕ) (ss : List SeatState) (s : SeatState) → seat_of b ss ≡ Some s → s.holder ≡ None → get_of hart b ss ≡ (with_seat b (with_holder hart) ss, Held (guard_of hart b s s.content))
unfolding get_of
get_in hart b ss s e none =
    ap (get_by hart b ss) e ∙ ap (λ (h : Option ℕ). if is_some h then (ss, Waits) else (with_seat b (with_holder hart) ss, Held (guard_of hart b s s.content))) none

pub lend_gives : (slots new : Row) (ss : List SeatState) (i hart b : ℕ) (s : SeatState) (r : Option (GuardState BufferState))
    → position (has_block b) ss ≡ Some i → s ≡ get_or ss i s → IsSeated slots ss → (new, r) ≡ lock_of slots s.number hart → LendGives new ss i hart b s r
lend_gives slots new ss i hart b s r at is seated lock = by_holder s.holder refl
  where
    first : seat_of b ss ≡ Some s
    first = place_first (has_block b) ss i s at ∙ ap (λ (w : SeatState). Some w) (sym is)

    fits : SlotFits s (slice_get slots s.number)
    fits = seated_at slots (has_block b) ss s seated.all first

    by_holder : (h : Option ℕ) → s.holder ≡ h → LendGives new ss i hart b s r
    by_holder (Some other) out =
        let locked = lock ∙ lock_out slots s.number hart other (slot_out s (slice_get slots s.number) other fits out) in
        let same : set ss i s ≡ ss = ap (set ss i) is ∙ set-get_or ss i s in
        let same_got : (set ss i s, Waits) ≡ get_of hart b ss = ap (λ (w : List SeatState). let q : List SeatState × Got = (w, Waits) in q) same ∙ sym (get_out hart b other ss s first out) in
        let P : Row × Option (GuardState BufferState) → Type 0 = λ w. LendGives w.0 ss i hart b s w.1 in
        subst P (sym locked) (same_got, subst (λ (w : List SeatState). IsSeated slots w) (sym same) seated)
    by_holder None none =
        let there = slot_in s (slice_get slots s.number) fits none in
        let locked = lock ∙ lock_in slots s.number hart there.0 there.1 in
        let left : SlotState BufferState = record { number = s.number; inside = None; holder = Some hart } in
        let set_is : set ss i (with_holder hart s) ≡ with_seat b (with_holder hart) ss = place_change (has_block b) (with_holder hart) ss i s _ at (ap (with_holder hart) (sym is)) in
        let got : (set ss i (with_holder hart s), Held (record { number = s.number; hart = hart; value = record { block = b; content = there.0.content } })) ≡ get_of hart b ss =
        ap (λ (w : List SeatState). let q : List SeatState × Got = (w, Held (guard_of hart b s there.0.content)) in q) set_is
        ∙ ap (λ (c : Option (List ℕ)). let q : List SeatState × Got = (with_seat b (with_holder hart) ss, Held (guard_of hart b s c)) in q) there.2
        ∙ sym (get_in hart b ss s first none) in
        let seated_then : IsSeated (slice_set slots s.number left) (with_seat b (with_holder hart) ss) = record {
          all = seated_change slots (has_block b) (with_holder hart) ss s left first refl (refl, refl, tt) (slot_within slots s fits) (seated.apart s.number) seated.all;
          apart = apart_change (has_block b) (with_holder hart) ss (λ _. refl) seated.apart;
        } in
        let P : Row × Option (GuardState BufferState) → Type 0 = λ w. LendGives w.0 ss i hart b s w.1 in
        subst P (sym locked) (got, subst (λ (w : List SeatState). IsSeated (slice_set slots s.number left) w) (sym set_is) seated_then)

-- a free buffer, for a block that none has
abbrev pub RenewGives : Row → List SeatState → ℕ → ℕ → ℕ → SeatState → Option (GuardState BufferState) → Type 0
RenewGives slots ss i hart b s None = ⊥
RenewGives slots ss i hart b s (Some g) = (g.number ≡ s.number) × (g.hart ≡ hart) × IsSeated slots (set ss i (as_new hart b s))

free_in : (p : Bool) (h : Option ℕ) → (not p && is_none h) ≡ true → h ≡ None
free_in true h e = absurd (cc e)
free_in false None e = refl
free_in false (Some k) e = absurd (cc e)

pub renew_gives : (slots new : Row) (ss : List SeatState) (i hart b : ℕ) (s : SeatState) (r : Option (GuardState BufferState))
    → slice_get ss i ≡ Some s → is_free s ≡ true → IsSeated slots ss → (new, r) ≡ lock_of slots s.number hart → RenewGives new ss i hart b s r
renew_gives slots new ss i hart b s r at free seated lock =
    let there = slot_in s (slice_get slots s.number) fits (free_in s.pinned s.holder free) in
    let locked = lock ∙ lock_in slots s.number hart there.0 there.1 in
    let left : SlotState BufferState = record { number = s.number; inside = None; holder = Some hart } in
    let set_is : set ss i (as_new hart b s) ≡ change_first (has_number s.number) (as_new hart b) ss = place_change (has_number s.number) (as_new hart b) ss i s _ place (ap (as_new hart b) (get_or_from_slice_get ss i s s at)) in
    let seated_then : IsSeated (slice_set slots s.number left) (change_first (has_number s.number) (as_new hart b) ss) = record {
      all = seated_change slots (has_number s.number) (as_new hart b) ss s left first refl (refl, refl, tt) (slot_within slots s fits) (seated.apart s.number) seated.all;
      apart = apart_change (has_number s.number) (as_new hart b) ss (λ _. refl) seated.apart;
    } in
    let P : Row × Option (GuardState BufferState) → Type 0 = λ w. RenewGives w.0 ss i hart b s w.1 in
    subst P (sym locked) (refl, refl, subst (λ (w : List SeatState). IsSeated (slice_set slots s.number left) w) (sym set_is) seated_then)
  where
    place : position (has_number s.number) ss ≡ Some i
    place = once_at (has_number s.number) ss i s (seated.apart s.number) at (same_number s.number)

    first : find (has_number s.number) ss ≡ Some s
    first = place_first (has_number s.number) ss i s place ∙ ap (λ (w : SeatState). Some w) (get_or_from_slice_get ss i s s at)

    fits : SlotFits s (slice_get slots s.number)
    fits = slot_at slots ss i s at seated.all

-- the seat that a guard holds
pub held_seat : (ss : List SeatState) (g : GuardState BufferState) → IsHeld ss g → (s : SeatState) × (seat_of g.value.block ss ≡ Some s) × IsGuardOf g s
held_seat ss g held = by_seat (seat_of g.value.block ss) refl held
  where
    by_seat : (o : Option SeatState) → seat_of g.value.block ss ≡ o → MatchOption o ⊥ (IsGuardOf g) → (s : SeatState) × (seat_of g.value.block ss ≡ Some s) × IsGuardOf g s
    by_seat None e f = absurd f
    by_seat (Some s) e f = (s, e, f)

pub held_cached : (ss : List SeatState) (g : GuardState BufferState) → IsHeld ss g → IsSome (seat_of g.value.block ss)
held_cached ss g held = let at = held_seat ss g held in subst (λ (o : Option SeatState). IsSome o) (sym at.1) refl

-- its slot is out in its hart's hand
pub held_out : (slots : Row) (ss : List SeatState) (g : GuardState BufferState) → IsSeated slots ss → IsHeld ss g → IsOut slots g
unfolding IsOut
held_out slots ss g seated held =
    let at = held_seat ss g held in
    let s = at.0 in
    let fits = seated_at slots (has_block g.value.block) ss s seated.all at.1 in
    let out = slot_out s (slice_get slots s.number) g.hart fits at.2.holder in
    subst (λ (n : ℕ). slice_get slots n ≡ Some (record { number = n; inside = None; holder = Some g.hart })) at.2.number out

-- a change of a held buffer's seat, except of its number and holder, is nothing to its slot
held_fits : (s : SeatState) (content : Option (List ℕ)) (pinned : Bool) (hart : ℕ) (o : Option (SlotState BufferState)) → s.holder ≡ Some hart → SlotFits s o → SlotFits (record s { content = content; pinned = pinned }) o
held_fits s content pinned hart None out fits = absurd fits
held_fits s content pinned hart (Some x) out fits = (fits.0, fits.1, subst (λ (h : Option ℕ). InsideFits content h x.inside) (sym out) (by_inside x.inside (subst (λ (h : Option ℕ). InsideFits s.content h x.inside) out fits.2)))
  where
    by_inside : (i : Option BufferState) → InsideFits s.content (Some hart) i → InsideFits content (Some hart) i
    by_inside None f = tt
    by_inside (Some v) f = absurd f

pub seated_filled : (slots : Row) (ss : List SeatState) (g : GuardState BufferState) (bytes : List ℕ) → IsSeated slots ss → IsHeld ss g → IsSeated slots (with_seat g.value.block (with_content bytes) ss)
seated_filled slots ss g bytes seated held = record {
  all = seated_same slots (has_block g.value.block) (with_content bytes) ss
      (λ s e fits. let at = held_seat ss g held in let same : at.0 ≡ s = same_Some at.0 s (sym at.1 ∙ e) in
      held_fits s (Some bytes) s.pinned g.hart (slice_get slots s.number) (subst (λ (u : SeatState). u.holder ≡ Some g.hart) same at.2.holder) fits) seated.all;
  apart = apart_change (has_block g.value.block) (with_content bytes) ss (λ _. refl) seated.apart;
}

pinned_fits : (s : SeatState) (pinned : Bool) (o : Option (SlotState BufferState)) → SlotFits s o → SlotFits (with_pin pinned s) o
pinned_fits s pinned None fits = fits
pinned_fits s pinned (Some x) fits = fits

pub seated_pinned : (slots : Row) (ss : List SeatState) (b : ℕ) (pinned : Bool) → IsSeated slots ss → IsSeated slots (with_seat b (with_pin pinned) ss)
seated_pinned slots ss b pinned seated = record {
  all = seated_same slots (has_block b) (with_pin pinned) ss (λ s _ fits. pinned_fits s pinned (slice_get slots s.number) fits) seated.all;
  apart = apart_change (has_block b) (with_pin pinned) ss (λ _. refl) seated.apart;
}

-- a guard given back into its slot
pub seated_given_back : (slots : Row) (ss : List SeatState) (g : GuardState BufferState) → IsSeated slots ss → IsHeld ss g → g.value.content ≡ kept g.value.block ss → IsSeated (unlocked slots g) (with_seat g.value.block without_holder ss)
unfolding unlocked
seated_given_back slots ss g seated held unchanged =
    let at = held_seat ss g held in
    let s = at.0 in
    let fits = seated_at slots (has_block g.value.block) ss s seated.all at.1 in
    let same : g.value.content ≡ s.content = unchanged ∙ ap (λ (o : Option SeatState). kept_of o) at.1 in
    let y : SlotState BufferState = filled s.number g.value in
    let after : IsSeated (slice_set slots s.number y) (with_seat g.value.block without_holder ss) = record {
      all = seated_change slots (has_block g.value.block) without_holder ss s y at.1 refl (refl, refl, same) (slot_within slots s fits) (seated.apart s.number) seated.all;
      apart = apart_change (has_block g.value.block) without_holder ss (λ _. refl) seated.apart;
    } in
    subst (λ (n : ℕ). IsSeated (slice_set slots n (filled n g.value)) (with_seat g.value.block without_holder ss)) at.2.number after
  where
    kept_of : Option SeatState → Option (List ℕ)
    kept_of None = None
    kept_of (Some u) = u.content

none_of : {T : Type 0} (o : Option T) → is_some o ≡ false → o ≡ None
none_of None e = refl
none_of (Some x) e = absurd (cc e)

-- the seat of a guard that isn't valid isn't either
pub held_unread : (ss : List SeatState) (g : GuardState BufferState) (s : SeatState) → seat_of g.value.block ss ≡ Some s → IsHeld ss g → g.value.content ≡ None → s.content ≡ None
held_unread ss g s e held unread =
    let at = held_seat ss g held in
    let same : at.0 ≡ s = same_Some at.0 s (sym at.1 ∙ e) in
    none_of s.content (ap (λ (u : SeatState). is_some u.content) (sym same) ∙ at.2.valid ∙ ap (λ (o : Option (List ℕ)). is_some o) unread)

-- the same, for the seat and the buffer as the code left them
pub lends_so : (slots : Row) (ss : List SeatState) (i hart b : ℕ) (s : SeatState) (g : GuardState BufferState) (t : SeatState) (v : BufferState)
    → LendGives slots ss i hart b s (Some g) → t ≡ with_holder hart s → v ≡ record { block = b; content = g.value.content }
    → ((set ss i t, Held (record { number = g.number; hart = g.hart; value = v })) ≡ get_of hart b ss) × IsSeated slots (set ss i t)
lends_so slots ss i hart b s g t v gives seat value = rw (seat, value) gives

pub renews_so : (slots : Row) (ss : List SeatState) (i hart b : ℕ) (s : SeatState) (g : GuardState BufferState) (t : SeatState) (v : BufferState)
    → RenewGives slots ss i hart b s (Some g) → t ≡ as_new hart b s → v ≡ record { block = b; content = None }
    → (Held (record { number = g.number; hart = g.hart; value = v }) ≡ Held (guard_of hart b s None)) × IsSeated slots (set ss i t)
renews_so slots ss i hart b s g t v gives seat value = (
  ap (λ (n : ℕ). Held (record { number = n; hart = g.hart; value = v })) gives.0
      ∙ ap (λ (h : ℕ). Held (record { number = s.number; hart = h; value = v })) gives.1
      ∙ ap (λ (w : BufferState). Held (record { number = s.number; hart = hart; value = w })) value,
  subst (λ (w : SeatState). IsSeated slots (set ss i w)) (sym seat) gives.2,
)

-- what follows on both sides of a result
pub either_way : {T E A B P : Type 0} (r : Result T E) → OnOk r A → OnErr r B → (A → P) → (B → P) → P
either_way (Ok x) a b f g = f a
either_way (Err e) a b f g = g b
