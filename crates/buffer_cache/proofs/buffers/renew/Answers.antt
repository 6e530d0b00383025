use Rattle.buffer_cache.proofs.Lemmas.{◌≡◌, ◌∙◌, sym, ap, subst, length, ℕ, ◌<◌, None, set, refl, slice_get_read, lock_of, SeatState, is_free, as_new, numbered, guard_of, Held, numbered_read, RenewGives, renew_gives, renews_so, slot_at, slot_within}
use Rattle.buffer_cache.proofs.buffers.renew.Goals as goal

pub lock-requires : goal.lock-requires
lock-requires c =
    let ss = c.args.seats.now.items in
    let s : SeatState = c.index_mut-seat.result.now in
    let at = slice_get_read ss (length ss) c.args.i s refl c.requires.place c.index_mut-seat.ensures.value in
    subst (λ (n : ℕ). n < length c.args.slots.now) (sym c.number.ensures) (slot_within c.args.slots.now s (slot_at c.args.slots.now ss c.args.i s at c.requires.seated.all))

pub unreachable-requires : goal.unreachable-requires
unreachable-requires c =
    let ss = c.args.seats.now.items in
    let s : SeatState = c.index_mut-seat.result.now in
    let at = slice_get_read ss (length ss) c.args.i s refl c.requires.place c.index_mut-seat.ensures.value in
    let seat : s ≡ numbered ss c.args.i = numbered_read ss c.args.i s c.requires.place c.index_mut-seat.ensures.value in
    let locked = c.lock.ensures.gives ∙ ap (λ (n : ℕ). lock_of c.args.slots.now n c.args.hart) c.number.ensures in
    let all = renew_gives c.args.slots.now c.lock.new.self ss c.args.i c.args.hart c.args.b s c.lock.result at (ap is_free seat ∙ c.requires.free) c.requires.seated locked in
    subst (RenewGives c.lock.new.self ss c.args.i c.args.hart c.args.b s) c.in-None.is all

pub returns : goal.returns
returns c =
    let ss = c.args.seats.now.items in
    let s : SeatState = c.index_mut-seat.result.now in
    let at = slice_get_read ss (length ss) c.args.i s refl c.requires.place c.index_mut-seat.ensures.value in
    let seat : s ≡ numbered ss c.args.i = numbered_read ss c.args.i s c.requires.place c.index_mut-seat.ensures.value in
    let locked = c.lock.ensures.gives ∙ ap (λ (n : ℕ). lock_of c.args.slots.now n c.args.hart) c.number.ensures in
    let all = renew_gives c.args.slots.now c.lock.new.self ss c.args.i c.args.hart c.args.b s c.lock.result at (ap is_free seat ∙ c.requires.free) c.requires.seated locked in
    let some = subst (RenewGives c.lock.new.self ss c.args.i c.args.hart c.args.b s) c.in-Some.is all in
    let so = renews_so c.lock.new.self ss c.args.i c.args.hart c.args.b s c.in-Some.guard c.renew-in-Some.new.self c.renew.new.self some c.renew-in-Some.ensures c.renew.ensures in
    record {
      seats = ap (λ (t : SeatState). set ss c.args.i t) (c.renew-in-Some.ensures ∙ ap (as_new c.args.hart c.args.b) seat);
      gives = so.0 ∙ ap (λ (w : SeatState). Held (guard_of c.args.hart c.args.b w None)) seat;
      seated = so.1;
    }
