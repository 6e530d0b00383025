use Rattle.sleep_lock.proofs.Lemmas.{rules, refl, length-append, append_assoc, ◌+◌, ◌≡◌, ap, ◌∙◌, sym, arith, ◌∷◌, [], length, common_steps, row_of, filled, numbered_row, row_of-push, length-row_of}
use Rattle.sleep_lock.proofs.row.Slots.new.Goals as goal

pub loop-value-preserved : goal.loop-value-preserved
loop-value-preserved g c =
    let values = c.loop-value.yielded in
    let value = c.in-Some.value in
    let boxed : c.in_ok-new.field-0.value ≡ value = grind (arith, common_steps) in
    let place : 0 + length values ≡ c.loop-value.number = omega (arith, c.loop-value.invariant.number) in
    let at : filled (0 + length values) value ≡ c.new-in-loop-value.result = rw (place, sym boxed) (sym c.new-in-loop-value.ensures) in
    record {
      row = rw (c.in_ok-push.ensures.items, c.loop-value.invariant.row, row_of-push 0 values value, at) refl;
      number = omega (arith, length-append values (value ∷ []), c.loop-value.invariant.number);
      rest = search (rules, append_assoc);
    }

pub returns-clause-numbered : goal.returns-clause-numbered
returns-clause-numbered g c = rw c.loop-value.invariant.row (numbered_row c.loop-value.yielded)

pub returns-clause-count : goal.returns-clause-count
returns-clause-count g c =
    let row : c.loop-value.items.items ≡ row_of 0 c.args.values.items = grind (arith, common_steps) in
    ap (λ ss. length ss) row ∙ length-row_of 0 c.args.values.items
