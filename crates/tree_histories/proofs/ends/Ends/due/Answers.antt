use Rattle.tree_histories.proofs.Lemmas.{◌∙◌, ap, sym, get_or, subst, arith, None, is_due, IsDue}
use Rattle.tree_histories.proofs.ends.Ends.due.Goals as goal

pub returns-then-has_end : goal.returns-then-has_end
returns-then-has_end c =
    let has = c.has_end.ensures.0 c.if-has_end.true in
    let there = ap (λ ends. get_or ends c.index-due.result.now.id None) (sym c.deref.ensures.value) ∙ has in
    subst (λ ends. IsDue ends c.index-due.result.now) c.self.view_is
    (is_due c.self.inside.ends.items c.self.inside.order.items c.self.inside.from c.loop-place.place c.index-due.result.now c.self.invariant c.loop-place.invariant (omega arith) c.index-due.ensures there)
