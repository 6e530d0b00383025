use Rattle.buffer_cache.proofs.Lemmas.{◌≡◌, ◌≤◌, ◌∷◌, [], length, length-append, sym, subst, arith, IfOk-weaker, Row, row_of, IsSeated, unused_from, new_push, seated_new}
use Rattle.buffer_cache.proofs.buffers.new_slots.Goals as goal

pub loop-preserved : goal.loop-preserved
loop-preserved c = record {
  new = rw c.in_ok-push.ensures.items (new_push c.loop.buffers.items _ c.loop.invariant.new c.in_ok-new.ensures);
  count = rw c.in_ok-push.ensures.items (omega (arith, length-append c.loop.buffers.items (c.in_ok-new.field-0 ∷ []), c.loop.invariant.count));
}

pub returns : goal.returns
returns c =
    let long : 46 ≤ length c.loop.buffers.items = omega (arith, c.loop.invariant.count, c.loop-test.false) in
    IfOk-weaker c.new-2.result (λ slots. slots ≡ row_of 0 c.loop.buffers.items) (λ slots. IsSeated slots (unused_from 0 46))
    (λ slots is. subst (λ (w : Row). IsSeated w (unused_from 0 46)) (sym is) (seated_new c.loop.buffers.items 46 c.loop.invariant.new long))
    c.new-2.ensures.row
