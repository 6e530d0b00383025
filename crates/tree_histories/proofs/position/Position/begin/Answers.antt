use Rattle.tree_histories.proofs.Lemmas.{◌≡◌, ◌+◌, ◌≤◌, length, refl, sym, ◌∙◌, ap, subst, arith, get_or, Some, slice_get, length_push, start, EndsAt, begin_at, ends_push, got, start_push}
use Rattle.tree_histories.proofs.position.Position.begin.Goals as goal

pub loop-traced-preserved : goal.loop-traced-preserved
loop-traced-preserved c =
    let calls = c.args.trace.now.calls in
    let pushed = c.in_ok-push.ensures.items in
    let end_pushed = c.in_ok-push-2.ensures.items in
    let n : length c.loop-traced.ends.items ≡ c.loop-traced.traced-index = c.loop-traced.invariant.ends in
    let at : slice_get calls c.loop-traced.traced-index ≡ Some c.traced-item.result = got calls c.as_slice-traced-items.result.now c.loop-traced.traced-index c.traced-item.result c.as_slice-traced-items.ensures c.loop-traced-test.true c.traced-item.is in
    let at_end : slice_get calls (length c.loop-traced.ends.items) ≡ Some c.traced-item.result = subst (λ i. slice_get calls i ≡ Some c.traced-item.result) (sym n) at in
    let old : EndsAt calls c.loop-traced.ends.items (length c.loop-traced.ends.items) = subst (λ i. EndsAt calls c.loop-traced.ends.items i) (sym n) c.loop-traced.invariant.all_end in
    let new : EndsAt calls c.push-in-loop-traced.new.self.items (length c.loop-traced.ends.items + 1) = subst (λ xs. EndsAt calls xs (length c.loop-traced.ends.items + 1)) (sym end_pushed) (ends_push calls c.loop-traced.ends.items c.end_of.result c.traced-item.result at_end c.end_of.ensures old) in record {
      stands = omega (arith, ap length pushed, length_push c.loop-traced.stands.items start, c.loop-traced.invariant.stands);
      ends = omega (arith, ap length end_pushed, length_push c.loop-traced.ends.items c.end_of.result, n);
      all_start = λ k. subst (λ xs. get_or xs k start ≡ start) (sym pushed) (start_push c.loop-traced.stands.items start refl c.loop-traced.invariant.all_start k);
      all_end = subst (λ i. EndsAt calls c.push-in-loop-traced.new.self.items (i + 1)) n new;
    }

pub returns-clause-at : goal.returns-clause-at
returns-clause-at c version =
    let calls = c.args.trace.now.calls in
    let end : length c.as_slice-traced-items.result.now ≤ c.loop-traced.traced-index = c.loop-traced-test.false in
    let most : c.loop-traced.traced-index ≤ length c.as_slice-traced-items.result.now = c.loop-traced.auto.traced-index-end in
    let n : c.loop-traced.traced-index ≡ length calls = omega (arith, ap length c.as_slice-traced-items.ensures) in
    let ends = c.in_ok-new.ensures in
    begin_at version c.args.base.now c.args.trace.now _ (c.tree.view_is ∙ c.in_ok-tree.ensures) c.new.ensures.items (c.loop-traced.invariant.stands ∙ n) (ap length ends ∙ c.loop-traced.invariant.ends ∙ n) c.loop-traced.invariant.all_start
    (subst (λ xs. EndsAt calls xs (length calls)) (sym ends) (subst (λ i. EndsAt calls c.loop-traced.ends.items i) n c.loop-traced.invariant.all_end))
