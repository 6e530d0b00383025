use Rattle.buffer_cache.proofs.Lemmas.{◌∙◌, sym, ap, subst, length, ℕ, ◌<◌, Some, lock_of, BufferState, SeatState, has_block, place_first, LendGives, lend_gives, lends_so, seated_at, slot_within}
use Rattle.buffer_cache.proofs.buffers.lend.Goals as goal

pub lock-requires : goal.lock-requires
lock-requires c =
    let s : SeatState = c.index_mut-seat.result.now in
    let first = place_first (has_block c.args.b) c.args.seats.now.items c.args.i s c.requires.place ∙ ap (λ (w : SeatState). Some w) (sym c.index_mut-seat.ensures.value) in
    subst (λ (n : ℕ). n < length c.args.slots.now) (sym c.number.ensures) (slot_within c.args.slots.now s (seated_at c.args.slots.now (has_block c.args.b) c.args.seats.now.items s c.requires.seated.all first))

pub returns-in-None : goal.returns-in-None
returns-in-None c =
    let locked = c.lock.ensures.gives ∙ ap (λ (n : ℕ). lock_of c.args.slots.now n c.args.hart) c.number.ensures in
    let all = lend_gives c.args.slots.now c.lock.new.self c.args.seats.now.items c.args.i c.args.hart c.args.b c.index_mut-seat.result.now c.lock.result c.requires.place c.index_mut-seat.ensures.value c.requires.seated locked in
    let none = subst (LendGives c.lock.new.self c.args.seats.now.items c.args.i c.args.hart c.args.b c.index_mut-seat.result.now) c.in-None.is all in
    record { gives = none.0; seated = none.1 }

pub returns-in-Some : goal.returns-in-Some
returns-in-Some c =
    let locked = c.lock.ensures.gives ∙ ap (λ (n : ℕ). lock_of c.args.slots.now n c.args.hart) c.number.ensures in
    let all = lend_gives c.args.slots.now c.lock.new.self c.args.seats.now.items c.args.i c.args.hart c.args.b c.index_mut-seat.result.now c.lock.result c.requires.place c.index_mut-seat.ensures.value c.requires.seated locked in
    let some = subst (LendGives c.lock.new.self c.args.seats.now.items c.args.i c.args.hart c.args.b c.index_mut-seat.result.now) c.in-Some.is all in
    let value = c.name.ensures ∙ ap (λ (v : BufferState). let w : BufferState = record { block = c.args.b; content = v.content } in w) c.value_mut.ensures.value in
    let so = lends_so c.lock.new.self c.args.seats.now.items c.args.i c.args.hart c.args.b c.index_mut-seat.result.now c.in-Some.guard c.lend.new.self c.name.new.self some c.lend.ensures value in
    record { gives = so.0; seated = so.1 }
