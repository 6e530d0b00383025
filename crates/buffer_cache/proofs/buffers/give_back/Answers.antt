use Rattle.buffer_cache.proofs.Lemmas.{◌∙◌, ap, set, arith, SeatState, without_holder, seats_count, numbered_read}
use Rattle.buffer_cache.proofs.buffers.give_back.Goals as goal

pub overflow_cast-i-2 : goal.overflow_cast-i-2
overflow_cast-i-2 c = let count = seats_count c.args.seats.now.items c.args.order.now c.requires.ordered in omega (arith, count, c.requires.place)

pub move_last-requires : goal.move_last-requires
move_last-requires c = let count = seats_count c.args.seats.now.items c.args.order.now c.requires.ordered in omega (arith, count, c.requires.place)

pub returns-clause-seats : goal.returns-clause-seats
returns-clause-seats c =
    ap (λ (s : SeatState). set c.args.seats.now.items c.args.i s)
    (c.take_back.ensures ∙ ap without_holder (numbered_read c.args.seats.now.items c.args.i c.index_mut-seat.result.now c.requires.place c.index_mut-seat.ensures.value))
