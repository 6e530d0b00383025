use Rattle.buffer_cache.proofs.Lemmas.{List, sym, ◌∙◌, ap, subst, SeatState, unused_from, IsChained, in_order, in_order_new, kept_new}
use Rattle.buffer_cache.proofs.buffers.Buffers.new.Goals as goal

pub invariant_of-result : goal.invariant_of-result
invariant_of-result c = record {
  kept = kept_new c.in_ok-slots.slots c.in_ok-seats.seats.items c.new.result c.in_ok-slots.ensures c.in_ok-seats.ensures c.new.ensures;
  chained = subst (λ (l : List SeatState). IsChained l c.new-2.result) (sym c.in_ok-seats.ensures) c.new-2.ensures;
}

pub returns : goal.returns
returns c =
    ap (λ (l : List SeatState). in_order l c.new.result) c.in_ok-seats.ensures
    ∙ ap (in_order (unused_from 0 46)) c.new.ensures ∙ in_order_new
