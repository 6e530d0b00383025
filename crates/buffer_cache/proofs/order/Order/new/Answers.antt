use Rattle.buffer_cache.proofs.Lemmas.{arith, numbers, AreInOrder, ring_made}
use Rattle.buffer_cache.proofs.order.Order.new.Goals as goal

pub invariant_of-result : goal.invariant_of-result
invariant_of-result c =
    let ends = c.link_all.ensures.ends 46 (omega arith) in
    let are : AreInOrder 46 c.link_all.new.next c.link_all.new.previous = record { next = λ k lt. c.link_all.ensures.next k (omega arith); previous = λ k lt. c.link_all.ensures.previous k (omega arith); first = ends.0; last_ = ends.1 } in
    (ring_made 46 c.link_all.new.next c.link_all.new.previous are).0

pub returns : goal.returns
unfolding numbers
returns c =
    let ends = c.link_all.ensures.ends 46 (omega arith) in
    let are : AreInOrder 46 c.link_all.new.next c.link_all.new.previous = record { next = λ k lt. c.link_all.ensures.next k (omega arith); previous = λ k lt. c.link_all.ensures.previous k (omega arith); first = ends.0; last_ = ends.1 } in
    (ring_made 46 c.link_all.new.next c.link_all.new.previous are).1
