use Rattle.console.proofs.Lemmas.{rules, ◌≡◌, Err, ends_all, no_line_more, one_line_more, too_many_lines}
use Rattle.console.proofs.prompt.prompt_all.Goals as goal

pub returns-in_err-prompt_line : goal.returns-in_err-prompt_line
returns-in_err-prompt_line g c =
    let fails : c.from_residual.result ≡ Err c.in_err-prompt_line.field-0.0 = search rules in
    let one = c.in_err-prompt_line.ensures in
    c.loop-number.invariant _ _ _ _ (ends_all g.D.Device.contents g.D.Device.failures c.args.help.now c.loop-number.number _ one.next c.in_err-prompt_line.field-0.0 c.from_residual.result _ _ _ _ _ _ fails one.is_next one.runs)

pub returns-then-not-branch : goal.returns-then-not-branch
returns-then-not-branch g c =
    c.loop-number.invariant _ _ _ _ (no_line_more g.D.Device.contents g.D.Device.failures c.args.help.now c.loop-number.number _ _ c.in_ok-prompt_line.field-0 _ _ _ _ _ _ c.if-not-branch.true c.in_ok-prompt_line.ensures)

pub loop-number-preserved : goal.loop-number-preserved
loop-number-preserved g c =
    λ r t end n k.
    c.loop-number.invariant r t end n
    (one_line_more g.D.Device.contents g.D.Device.failures c.args.help.now c.loop-number.number _ _ c.in_ok-prompt_line.field-0 _ _ t _ _ end _ _ n r c.if-not-branch.false c.in_ok-prompt_line.ensures k)

pub returns : goal.returns
returns g c = c.loop-number.invariant _ _ _ _ (too_many_lines g.D.Device.contents g.D.Device.failures c.args.help.now c.loop-number.number _ _ _ _)
