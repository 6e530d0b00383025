use Rattle.buffer_cache.proofs.Lemmas.{◌∙◌, List, sym, ap, count_of, SeatState, is_pinned, counted_in, counted}
use Rattle.buffer_cache.proofs.buffers.Buffers.pinned.Goals as goal

pub returns : goal.returns
returns c =
    counted_in is_pinned c.deref.result.now c.self.inside.seats.items c.count_pinned.result c.count_pinned.ensures c.deref.ensures.value
    ∙ sym (counted c.self.inside.seats.items c.self.inside.order is_pinned c.self.invariant.kept.ordered) ∙ ap (λ (l : List SeatState). count_of is_pinned l) c.self.view_is
