-- What a get gives, if the block was recorded, and what it leaves.
use Rattle.group_log.proofs.Vocabulary.{◌≡◌, ◌≢◌, inl, inr, ℕ, List, [], true, false, refl, sym, ◌∙◌, ap, subst, Option, Some, None, IsSome, is_some, if◌then◌else◌, cases_eq, MatchOption, IfSome, option_map, option_and_then, unwrap_or, find, GuardState, BufferState, Got, Held, Waits, get_of, get_by, get_new, guard_of, SeatState, CacheState, has_block, is_free, is_pinned, seat_of, holder_of, with_seat, with_holder, without_holder, with_pin, given_back, IsPinned, IsHeld, IsGuardOf, KeepsHeld, KeepsOthers, KeepsRecorded, HasRecorded}
use Rattle.group_log.proofs.Seats.{pick, changed_twice, changed_and_ended}

pub same_cache : {D : Type 0} (c d : CacheState D) → c.device ≡ d.device → c.seats ≡ d.seats → c ≡ d
same_cache c d devices seats = λ i. record { device = devices i; seats = seats i }

abbrev pair : List SeatState → Got → List SeatState × Got
pair ss r = (ss, r)

-- ---- a get of a recorded block

pub record GetsRecorded (hart b : ℕ) (old new : List SeatState) (g : GuardState BufferState) : Type 0 where
  pub seats : new ≡ with_seat b (with_holder hart) old
  pub valid : IsSome g.value.content

by_holder : (hart b : ℕ) (old new : List SeatState) (g : GuardState BufferState) (s : SeatState) (h : Option ℕ) → IsSome s.content
    → pair new (Held g) ≡ (if is_some h then (old, Waits) else (with_seat b (with_holder hart) old, Held (guard_of hart b s s.content)))
    → GetsRecorded hart b old new g
by_holder hart b old new g s (Some h) valid e = let is : Held g ≡ Waits = ap (λ (p : List SeatState × Got). p.1) e in absurd (cc is)
by_holder hart b old new g s None valid e =
    let is : Held g ≡ Held (guard_of hart b s s.content) = ap (λ (p : List SeatState × Got). p.1) e in
    let same : g ≡ guard_of hart b s s.content = cc is in
    record {
      seats = ap (λ (p : List SeatState × Got). p.0) e;
      valid = subst (λ (o : Option (List ℕ)). IsSome o) (sym (ap (λ (x : GuardState BufferState). x.value.content) same)) valid;
    }

by_seat : (hart b : ℕ) (old new : List SeatState) (g : GuardState BufferState) (o : Option SeatState) → MatchOption o ⊥ KeepsRecorded
    → pair new (Held g) ≡ get_by hart b old o → GetsRecorded hart b old new g
by_seat hart b old new g None recorded e = absurd recorded
by_seat hart b old new g (Some s) recorded e = by_holder hart b old new g s s.holder recorded.valid e

pub gets_recorded : (hart b : ℕ) (old new : List SeatState) (r : Got) (g : GuardState BufferState) → HasRecorded old b → pair new r ≡ get_of hart b old → r ≡ Held g
    → GetsRecorded hart b old new g
unfolding get_of
gets_recorded hart b old new r g pinned e is = by_seat hart b old new g (seat_of b old) pinned (subst (λ (r : Got). pair new r ≡ get_by hart b old (seat_of b old)) is e)

-- ---- a get that waits changes nothing

waits_new : (hart b : ℕ) (old new : List SeatState) (o : Option SeatState) → pair new Waits ≡ get_new hart b old o → new ≡ old
waits_new hart b old new None e = ap (λ (p : List SeatState × Got). p.0) e
waits_new hart b old new (Some s) e = let is : Waits ≡ Held (guard_of hart b s None) = ap (λ (p : List SeatState × Got). p.1) e in absurd (cc is)

waits_by : (hart b : ℕ) (old new : List SeatState) (o : Option SeatState) → pair new Waits ≡ get_by hart b old o → new ≡ old
waits_by hart b old new None e = waits_new hart b old new (find is_free old) e
waits_by hart b old new (Some s) e =
    pick (is_some s.holder) (λ t. pair new Waits ≡ (if t then (old, Waits) else (with_seat b (with_holder hart) old, Held (guard_of hart b s s.content))) → new ≡ old)
    (λ _ x. ap (λ (p : List SeatState × Got). p.0) x)
    (λ _ x. let is : Waits ≡ Held (guard_of hart b s s.content) = ap (λ (p : List SeatState × Got). p.1) x in absurd (cc is))
    e

pub waits_same : (hart b : ℕ) (old new : List SeatState) (r : Got) → pair new r ≡ get_of hart b old → r ≡ Waits → new ≡ old
unfolding get_of
waits_same hart b old new r e is = waits_by hart b old new (seat_of b old) (subst (λ (r : Got). pair new r ≡ get_by hart b old (seat_of b old)) is e)

-- ---- what is in a hand

held_holder : (g : GuardState BufferState) (o : Option SeatState) → MatchOption o ⊥ (IsGuardOf g) → IsSome (option_and_then (λ (s : SeatState). s.holder) o)
held_holder g None held = absurd held
held_holder g (Some s) held = subst (λ (o : Option ℕ). IsSome o) (sym held.holder) refl

pub held_out : (ss : List SeatState) (g : GuardState BufferState) → IsHeld ss g → IsSome (holder_of g.value.block ss)
held_out ss g held = held_holder g (seat_of g.value.block ss) held

held_seat_by : (g : GuardState BufferState) (o : Option SeatState) → MatchOption o ⊥ (IsGuardOf g) → IsSome o
held_seat_by g None held = absurd held
held_seat_by g (Some s) held = refl

pub held_cached : (ss : List SeatState) (g : GuardState BufferState) → IsHeld ss g → IsSome (seat_of g.value.block ss)
held_cached ss g held = held_seat_by g (seat_of g.value.block ss) held

-- a get, and then calls that leave all buffers but that one in their hands
pub keeps_all : (hart b : ℕ) (old mid new : List SeatState) (r : Got) (g : GuardState BufferState) → r ≡ Held g → (IsSome (holder_of b old) → r ≡ Waits)
    → KeepsHeld old mid → KeepsOthers b mid new → KeepsHeld old new
keeps_all hart b old mid new r g is waits first later guard held = elim (cases_eq guard.value.block b) [
  | inl e ↦
      let out : IsSome (holder_of b old) = subst (λ (k : ℕ). IsSome (holder_of k old)) e (held_out old guard held) in
      let both : Held g ≡ Waits = sym is ∙ waits out in
      absurd (cc both)
  | inr ne ↦ later guard ne (first guard held)
]

-- ---- the recorded block's buffer back among the others

pub put_back : (hart b : ℕ) (ss : List SeatState) → given_back b (with_seat b (with_holder hart) ss) ≡ given_back b ss
put_back hart b ss = changed_and_ended (has_block b) (with_holder hart) without_holder ss (λ s. refl)

pub put_home : (hart b : ℕ) (ss : List SeatState) → given_back b (with_seat b (with_pin false) (with_seat b (with_holder hart) ss)) ≡ given_back b (with_seat b (with_pin false) ss)
put_home hart b ss =
    ap (λ (l : List SeatState). given_back b l) (changed_twice (has_block b) (with_holder hart) (with_pin false) ss (λ s. refl))
    ∙ changed_and_ended (has_block b) (λ s. with_pin false (with_holder hart s)) without_holder ss (λ s. refl)
    ∙ sym (changed_and_ended (has_block b) (with_pin false) without_holder ss (λ s. refl))

seen_by : (bytes other : List ℕ) (o : Option (List ℕ)) → IsSome o → IfSome o (λ bytes. bytes ≡ other) → unwrap_or o [] ≡ other
seen_by bytes other None some is = absurd (cc some)
seen_by bytes other (Some v) some is = is

-- a valid guard's bytes
pub bytes_seen : (other : List ℕ) (o : Option (List ℕ)) → IsSome o → IfSome o (λ bytes. bytes ≡ other) → unwrap_or o [] ≡ other
bytes_seen other o some is = seen_by [] other o some is

pub if_some : (o : Option (List ℕ)) (a b : List ℕ) → IfSome o (λ bytes. bytes ≡ a) → a ≡ b → IfSome o (λ bytes. bytes ≡ b)
if_some None a b is e = tt
if_some (Some v) a b is e = is ∙ e

-- a block that no buffer has is another one
pub apart_from : (b at : ℕ) (ss : List SeatState) → HasRecorded ss b → seat_of at ss ≡ None → b ≢ at
apart_from b at ss pinned none e = absent (seat_of b ss) pinned (ap (λ (k : ℕ). seat_of k ss) e ∙ none)
  where
    absent : (o : Option SeatState) → MatchOption o ⊥ KeepsRecorded → o ≡ None → ⊥
    absent None recorded is = recorded
    absent (Some s) recorded is = cc is

-- a recorded block's buffer is pinned
pub recorded_pinned : (b : ℕ) (ss : List SeatState) → HasRecorded ss b → IsPinned b ss
recorded_pinned b ss is = by_seat (seat_of b ss) is
  where
    by_seat : (o : Option SeatState) → MatchOption o ⊥ KeepsRecorded → option_map is_pinned o ≡ Some true
    by_seat None recorded = absurd recorded
    by_seat (Some s) recorded = ap Some recorded.pinned
