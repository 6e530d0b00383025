-- What a get, a read and a giving back make of what the hart has in its hand.
use Rattle.bench.proofs.Vocabulary.{◌≡◌, ℕ, zero, suc, ◌+◌, ◌≤◌, Bool, true, false, List, Option, Some, None, refl, sym, ap, ◌∙◌, subst, arith, if◌then◌else◌, option_and_then, find, Result, Ok, Err, OnOk, OnErr, GuardState, BufferState, get_of, get_by, get_new, guard_of, count_of, SeatState, given_back, has_block, holder_of, is_free, is_held_by, is_out, seat_of, unused_from, with_content, with_holder, with_seat, IsHeld, Got, held_seat, count_first, IfGot, back_hand, got_hand, HasNone, HasOne, this_hart}
use Rattle.buffer_cache.specs.declared.got.Got.TheVariants as got

pub none_unused : (n count : ℕ) → HasNone (unused_from n count)
unfolding unused_from
none_unused n zero = refl
none_unused n (suc count) = let none = none_unused (n + 1) count in omega (arith, none)

-- after a get it has the buffer alone, or none if it waits
abbrev HasGot : List SeatState × Got → Type 0
HasGot (seats, got.Held guard) = count_of (is_held_by this_hart) seats ≡ 1
HasGot (seats, got.Waits) = HasNone seats

module _ (b : ℕ) (seats : List SeatState) (none : HasNone seats) where
  new_got : (o : Option SeatState) → IfGot this_hart b seats (get_new this_hart b seats o) → HasGot (get_new this_hart b seats o)
  new_got None came = none
  new_got (Some s) came = came.count ∙ ap suc none

  old_got : (s : SeatState) (out : Bool) → IfGot this_hart b seats (if out then (seats, got.Waits) else (with_seat b (with_holder this_hart) seats, got.Held (guard_of this_hart b s s.content)))
      → HasGot (if out then (seats, got.Waits) else (with_seat b (with_holder this_hart) seats, got.Held (guard_of this_hart b s s.content)))
  old_got s true came = none
  old_got s false came = came.count ∙ ap suc none

  by_seat : (o : Option SeatState) → IfGot this_hart b seats (get_by this_hart b seats o) → HasGot (get_by this_hart b seats o)
  by_seat None came = new_got (find is_free seats) came
  by_seat (Some s) came = old_got s (is_out s) came

  has_got : ((k : ℕ) → count_of (has_block k) seats ≤ 1) → HasGot (get_of this_hart b seats)
  unfolding get_of
  has_got once = by_seat (seat_of b seats) (got_hand this_hart b seats once)

  pub got_so : (r : List SeatState × Got) → ((k : ℕ) → count_of (has_block k) seats ≤ 1) → r ≡ get_of this_hart b seats → HasGot r
  got_so r once e = subst HasGot (sym e) (has_got once)

-- a read leaves it in hand
pub read_so : {E : Type 0} (r : Result (Unit {0}) E) (guard after : GuardState BufferState) (bytes : List ℕ) (old new : List SeatState)
    → OnOk r (after ≡ record guard { value = record { block = guard.value.block; content = Some bytes } }) → OnOk r (new ≡ with_seat guard.value.block (with_content bytes) old)
    → OnErr r ((after ≡ guard) × (new ≡ old)) → HasOne old guard → HasOne new after
read_so (Ok u) guard after bytes old new filled changed same one = (
  ap (count_of (is_held_by this_hart)) changed ∙ count_first (is_held_by this_hart) (has_block guard.value.block) (with_content bytes) old (λ x e. refl) ∙ one.0,
  ap (λ (g : GuardState BufferState). g.hart) filled ∙ one.1,
)
read_so (Err e) guard after bytes old new filled changed same one =
    (ap (count_of (is_held_by this_hart)) same.1 ∙ one.0, ap (λ (g : GuardState BufferState). g.hart) same.0 ∙ one.1)

pub back_so : (guard : GuardState BufferState) (seats : List SeatState) → HasOne seats guard → IsHeld seats guard → HasNone (given_back guard.value.block seats)
back_so guard seats one held =
    let at = held_seat seats guard held in
    let holder : holder_of guard.value.block seats ≡ Some this_hart = ap (λ (o : Option SeatState). option_and_then (λ (s : SeatState). s.holder) o) at.1 ∙ at.2.holder ∙ ap Some one.1 in
    let less = (back_hand this_hart guard.value.block seats holder).count in
    let was = one.0 in
    omega (arith, less, was)
