-- What the cache keeps of the buffers, as it is seen.
use Rattle.buffer_cache.proofs.Vocabulary.{◌≡◌, ℕ, ◌<◌, ◌≤◌, List, length, set, Bool, refl, sym, ◌∙◌, ap, subst, arith, Option, Some, None, IsSome, MatchOption, option_map, option_and_then, position, find, same_Some, none-some, GuardState, unlocked, BufferState, change_to_end, count_of, SeatState, unused, has_block, is_free, seat_of, slot_of, kept, with_holder, without_holder, with_content, with_pin, as_new, with_seat, given_back, unused_from, IsHeld, IsGuardOf, has_number, IsSeated, numbered, in_order, numbers, is_same, IsOrdered, IsKept, get_of, guard_of, Got, Held}
use Rattle.buffer_cache.proofs.Basics.{position_some, place_change, no_place, first_counted, first_passes, none_counted, is_block, Row, same_number, seated_at, slot_within, get_out, get_in, get_free, held_seat, held_cached, seated_filled, seated_pinned, seated_given_back, ordered_new, is_equal, counted, once_of, first_of, same_first, placed_first, first_in, changed_in, moved_in, ordered_set, ordered_first, ordered_moved, number_is, none_in}

pub held_of : (seats : List SeatState) (order : List ℕ) (seen : List SeatState) (g : GuardState BufferState) → IsOrdered seats order → in_order seats order ≡ seen → count_of (has_block g.value.block) seen ≤ 1 → IsHeld seen g → IsHeld seats g
held_of seats order seen g ordered is once held =
    let P : Option SeatState → Type 0 = λ o. MatchOption o ⊥ (IsGuardOf g) in
    subst P (first_of seats order seen (has_block g.value.block) ordered is once) held

-- what a change of one seat leaves
pub record KeepsOn (slots : Row) (new : List SeatState) (order : List ℕ) (seen : List SeatState) : Type 0 where
  pub all : IsKept slots new order
  pub view : in_order new order ≡ seen

pub keeps_filled : (slots : Row) (seats : List SeatState) (order : List ℕ) (seen new : List SeatState) (g : GuardState BufferState) (bytes : List ℕ) → IsKept slots seats order → in_order seats order ≡ seen
    → count_of (has_block g.value.block) seen ≤ 1 → IsHeld seen g → new ≡ with_seat g.value.block (with_content bytes) seats → KeepsOn slots new order (with_seat g.value.block (with_content bytes) seen)
keeps_filled slots seats order seen new g bytes all is once held to =
    let p = has_block g.value.block in
    let f = with_content bytes in
    let held_in = held_of seats order seen g all.ordered is once held in
    let few = once_of seats order seen p all.ordered is once in
    subst (λ (l : List SeatState). KeepsOn slots l order (with_seat g.value.block f seen)) (sym to) (record {
      all = record { seated = seated_filled slots seats g bytes all.seated held_in; ordered = ordered_first seats order p f (λ _. refl) all.ordered };
      view = first_in seats order p f all.ordered few (held_cached seats g held_in) ∙ ap (with_seat g.value.block f) is;
    })

pub keeps_pinned : (slots : Row) (seats : List SeatState) (order : List ℕ) (seen new : List SeatState) (b : ℕ) (pinned : Bool) → IsKept slots seats order → in_order seats order ≡ seen
    → count_of (has_block b) seen ≤ 1 → IsSome (seat_of b seen) → new ≡ with_seat b (with_pin pinned) seats → KeepsOn slots new order (with_seat b (with_pin pinned) seen)
keeps_pinned slots seats order seen new b pinned all is once some to =
    let p = has_block b in
    let f = with_pin pinned in
    let there : IsSome (seat_of b seats) = subst (λ (o : Option SeatState). IsSome o) (first_of seats order seen p all.ordered is once) some in
    let few = once_of seats order seen p all.ordered is once in
    subst (λ (l : List SeatState). KeepsOn slots l order (with_seat b f seen)) (sym to) (record {
      all = record { seated = seated_pinned slots seats b pinned all.seated; ordered = ordered_first seats order p f (λ _. refl) all.ordered };
      view = first_in seats order p f all.ordered few there ∙ ap (with_seat b f) is;
    })

-- a held buffer's place is its number
held_place : (seats : List SeatState) (order : List ℕ) (g : GuardState BufferState) → IsOrdered seats order → count_of (has_block g.value.block) seats ≤ 1 → IsHeld seats g → position (has_block g.value.block) seats ≡ Some g.number
held_place seats order g ordered once held = by_place (position p seats) refl
  where
    p : SeatState → Bool
    p = has_block g.value.block

    by_place : (o : Option ℕ) → position (has_block g.value.block) seats ≡ o → position (has_block g.value.block) seats ≡ Some g.number
    by_place None at =
        let there = held_cached seats g held in
        let none : IsSome {T = SeatState} None = subst (λ (o : Option SeatState). IsSome o) (no_place p seats at) there in
        absurd (cc none)
    by_place (Some n) at =
        let held_by = held_seat seats g held in
        let same : held_by.0 ≡ numbered seats n = same_Some held_by.0 (numbered seats n) (sym held_by.1 ∙ placed_first seats p n at) in
        let number : n ≡ g.number = sym (number_is seats order ordered n) ∙ ap (λ (s : SeatState). s.number) (sym same) ∙ held_by.2.number in
        at ∙ ap (λ (k : ℕ). Some k) number

pub keeps_given : (slots : Row) (seats : List SeatState) (order : List ℕ) (seen new : List SeatState) (order_new : List ℕ) (g : GuardState BufferState) → IsKept slots seats order → in_order seats order ≡ seen
    → count_of (has_block g.value.block) seen ≤ 1 → IsHeld seen g → g.value.content ≡ kept g.value.block seen
    → new ≡ set seats g.number (without_holder (numbered seats g.number)) → order_new ≡ change_to_end (is_same g.number) (λ n. n) order
    → KeepsOn (unlocked slots g) new order_new (given_back g.value.block seen)
keeps_given slots seats order seen new order_new g all is once held unchanged to moved =
    let b = g.value.block in
    let p = has_block b in
    let n = g.number in
    let held_in = held_of seats order seen g all.ordered is once held in
    let few = once_of seats order seen p all.ordered is once in
    let place = held_place seats order g all.ordered few held_in in
    let within = position_some p seats n place in
    let y : SeatState = without_holder (numbered seats n) in
    let set_is : set seats n y ≡ with_seat b without_holder seats = place_change p without_holder seats n (unused n) y place refl in
    let unchanged_in : g.value.content ≡ kept b seats = unchanged ∙ ap (λ (o : Option SeatState). option_and_then (λ (s : SeatState). s.content) o) (first_of seats order seen p all.ordered is once) in
    let seated = seated_given_back slots seats g all.seated held_in unchanged_in in
    let after : KeepsOn (unlocked slots g) (set seats n y) (change_to_end (is_same n) (λ k. k) order) (given_back b seen) = record {
      all = record {
        seated = subst (λ (l : List SeatState). IsSeated (unlocked slots g) l) (sym set_is) seated;
        ordered = ordered_moved (set seats n y) order n (ordered_set seats order n y refl all.ordered);
      };
      view = moved_in seats order p without_holder n y all.ordered within.1 (same_first seats order p all.ordered few ∙ placed_first seats p n place) refl ∙ ap (given_back b) is;
    } in
    subst (λ (o : List ℕ). KeepsOn (unlocked slots g) new o (given_back b seen)) (sym moved)
    (subst (λ (l : List SeatState). KeepsOn (unlocked slots g) l (change_to_end (is_same n) (λ k. k) order) (given_back b seen)) (sym to) after)

-- the buffer in a slot
pub record IsIn (seats : List SeatState) (b n : ℕ) : Type 0 where
  pub within : n < length seats
  pub place : position (has_block b) seats ≡ Some n
  pub block : (numbered seats n).block ≡ Some b

pub slot_in : (seats : List SeatState) (order : List ℕ) (seen : List SeatState) (b n : ℕ) → IsOrdered seats order → in_order seats order ≡ seen → count_of (has_block b) seen ≤ 1 → slot_of b seen ≡ Some n → IsIn seats b n
slot_in seats order seen b n ordered is once at = by_place (position (has_block b) seats) refl
  where
    number_of : Option SeatState → Option ℕ
    number_of o = option_map (λ (s : SeatState). s.number) o

    here : number_of (seat_of b seats) ≡ Some n
    here = ap number_of (sym (first_of seats order seen (has_block b) ordered is once)) ∙ at

    by_place : (o : Option ℕ) → position (has_block b) seats ≡ o → IsIn seats b n
    by_place None none = let clash : None ≡ Some n = sym (ap number_of (no_place (has_block b) seats none)) ∙ here in absurd (none-some n clash)
    by_place (Some i) place =
        let first = placed_first seats (has_block b) i place in
        let same : i ≡ n = sym (number_is seats order ordered i) ∙ same_Some (numbered seats i).number n (sym (ap number_of first) ∙ here) in
        subst (IsIn seats b) same (record {
          within = (position_some (has_block b) seats i place).1;
          place = place;
          block = is_block b (numbered seats i).block (first_passes (has_block b) seats (numbered seats i) first);
        })

-- what a get leaves
pub keeps_lent : (seats : List SeatState) (order : List ℕ) (new : List SeatState) (hart b i : ℕ) (got : Got) → IsOrdered seats order → count_of (has_block b) seats ≤ 1 → position (has_block b) seats ≡ Some i
    → (new, got) ≡ get_of hart b seats → ((in_order new order, got) ≡ get_of hart b (in_order seats order)) × IsOrdered new order
keeps_lent seats order new hart b i got ordered once at gives = by_holder s.holder refl
  where
    s : SeatState
    s = numbered seats i

    P : List SeatState × Got → Type 0
    P w = ((in_order w.0 order, w.1) ≡ get_of hart b (in_order seats order)) × IsOrdered w.0 order

    first : seat_of b seats ≡ Some s
    first = placed_first seats (has_block b) i at

    first_seen : seat_of b (in_order seats order) ≡ Some s
    first_seen = same_first seats order (has_block b) ordered once ∙ first

    by_holder : (h : Option ℕ) → (numbered seats i).holder ≡ h → ((in_order new order, got) ≡ get_of hart b (in_order seats order)) × IsOrdered new order
    by_holder None none =
        let to = gives ∙ get_in hart b seats s first none in
        let there : IsSome (seat_of b seats) = subst (λ (o : Option SeatState). IsSome o) (sym first) refl in
        let guard : Got = Held (guard_of hart b s s.content) in
        subst P (sym to) (
          ap (λ (l : List SeatState). let q : List SeatState × Got = (l, guard) in q) (first_in seats order (has_block b) (with_holder hart) ordered once there)
              ∙ sym (get_in hart b (in_order seats order) s first_seen none),
          ordered_first seats order (has_block b) (with_holder hart) (λ _. refl) ordered,
        )
    by_holder (Some other) out = subst P (sym (gives ∙ get_out hart b other seats s first out)) (sym (get_out hart b other (in_order seats order) s first_seen out), ordered)

pub keeps_renewed : (seats : List SeatState) (order : List ℕ) (new : List SeatState) (hart b i : ℕ) (got : Got) → IsOrdered seats order → position (has_block b) seats ≡ None → i < length seats
    → find is_free (in_order seats order) ≡ Some (numbered seats i) → new ≡ set seats i (as_new hart b (numbered seats i)) → got ≡ Held (guard_of hart b (numbered seats i) None)
    → ((in_order new order, got) ≡ get_of hart b (in_order seats order)) × IsOrdered new order
keeps_renewed seats order new hart b i got ordered none lt first to gives =
    let guard : Got = Held (guard_of hart b (numbered seats i) None) in
    let y : SeatState = as_new hart b (numbered seats i) in
    let none_seen = none_in seats order (has_block b) ordered (no_place (has_block b) seats none) in
    let got_so : (in_order (set seats i y) order, guard) ≡ get_of hart b (in_order seats order) =
    ap (λ (l : List SeatState). let q : List SeatState × Got = (l, guard) in q) (changed_in seats order is_free (as_new hart b) i y ordered lt first refl)
    ∙ sym (get_free hart b (in_order seats order) (numbered seats i) none_seen first) in
    let P : List SeatState → Got → Type 0 = λ l r. ((in_order l order, r) ≡ get_of hart b (in_order seats order)) × IsOrdered l order in
    subst (λ (l : List SeatState). P l got) (sym to) (subst (λ (r : Got). P (set seats i y) r) (sym gives) (got_so, ordered_set seats order i y refl ordered))

-- the same of a guard that has it as it is seen
pub held_at : (seats : List SeatState) (order : List ℕ) (seen : List SeatState) (g : GuardState BufferState) → IsOrdered seats order → in_order seats order ≡ seen → count_of (has_block g.value.block) seen ≤ 1 → IsHeld seen g
    → position (has_block g.value.block) seats ≡ Some g.number
held_at seats order seen g ordered is once held =
    held_place seats order g ordered (once_of seats order seen (has_block g.value.block) ordered is once) (held_of seats order seen g ordered is once held)

pub held_number : (seats : List SeatState) (order : List ℕ) (seen : List SeatState) (g : GuardState BufferState) → IsOrdered seats order → in_order seats order ≡ seen → count_of (has_block g.value.block) seen ≤ 1 → IsHeld seen g → g.number < length seats
held_number seats order seen g ordered is once held = (position_some (has_block g.value.block) seats g.number (held_at seats order seen g ordered is once held)).1

-- a held buffer's slot is there
pub held_within : (slots : Row) (seats : List SeatState) (order : List ℕ) (seen : List SeatState) (g : GuardState BufferState) → IsKept slots seats order → in_order seats order ≡ seen → IsHeld seen g → g.number < length slots
held_within slots seats order seen g all is held =
    let at = held_seat seen g held in
    let n = at.0.number in
    let there = first_counted (has_number n) (has_block g.value.block) seen at.0 at.1 (same_number n) in
    let counts = counted seats order (has_number n) all.ordered in
    let seen_counts : count_of (has_number n) (in_order seats order) ≡ count_of (has_number n) seen = ap (λ (l : List SeatState). count_of (has_number n) l) is in
    subst (λ (k : ℕ). k < length slots) at.2.number (by_first n (find (has_number n) seats) refl (omega (arith, there, counts, seen_counts)))
  where
    by_first : (n : ℕ) (o : Option SeatState) → find (has_number n) seats ≡ o → 1 ≤ count_of (has_number n) seats → n < length slots
    by_first n None e some = let none = none_counted (has_number n) seats e in absurd (omega (arith, none, some))
    by_first n (Some s) e some =
        let number : s.number ≡ n = is_equal s.number n (first_passes (has_number n) seats s e) in
        subst (λ (k : ℕ). k < length slots) number (slot_within slots s (seated_at slots (has_number n) seats s all.seated.all e))

-- buffers that are made
pub kept_new : (slots : Row) (seats : List SeatState) (order : List ℕ) → IsSeated slots (unused_from 0 46) → seats ≡ unused_from 0 46 → order ≡ numbers → IsKept slots seats order
kept_new slots seats order seated is order_is =
    subst (λ (o : List ℕ). IsKept slots seats o) (sym order_is)
    (subst (λ (l : List SeatState). IsKept slots l numbers) (sym is) (record { seated = seated; ordered = ordered_new }))
