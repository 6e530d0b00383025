use Rattle.buffer_cache.proofs.Lemmas.{◌∙◌, List, sym, ap, count_of, SeatState, is_held_by, counted_in, counted}
use Rattle.buffer_cache.proofs.buffers.Buffers.held_by.Goals as goal

pub returns : goal.returns
returns c =
    let p = is_held_by c.args.hart in
    counted_in p c.deref.result.now c.self.inside.seats.items c.count_held.result c.count_held.ensures c.deref.ensures.value
    ∙ sym (counted c.self.inside.seats.items c.self.inside.order p c.self.invariant.kept.ordered) ∙ ap (λ (l : List SeatState). count_of p l) c.self.view_is
