use Rattle.buffer_cache.proofs.Lemmas.{arith, AreInOrder, ring_made, chained_new}
use Rattle.buffer_cache.proofs.chains.Chains.new.Goals as goal

pub invariant_of-result : goal.invariant_of-result
invariant_of-result c =
    let ends = c.link_all.ensures.ends 59 (omega arith) in
    let are : AreInOrder 59 c.link_all.new.next c.link_all.new.previous = record { next = λ k lt. c.link_all.ensures.next k (omega arith); previous = λ k lt. c.link_all.ensures.previous k (omega arith); first = ends.0; last_ = ends.1 } in
    (ring_made 59 c.link_all.new.next c.link_all.new.previous are).0

pub returns : goal.returns
returns c =
    let ends = c.link_all.ensures.ends 59 (omega arith) in
    let are : AreInOrder 59 c.link_all.new.next c.link_all.new.previous = record { next = λ k lt. c.link_all.ensures.next k (omega arith); previous = λ k lt. c.link_all.ensures.previous k (omega arith); first = ends.0; last_ = ends.1 } in
    chained_new _ (ring_made 59 c.link_all.new.next c.link_all.new.previous are).1
