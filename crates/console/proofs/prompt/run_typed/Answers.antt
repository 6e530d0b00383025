use Rattle.console.proofs.Lemmas.{rules, ◌≡◌, Err, line_said, line_hinted, line_unhinted}
use Rattle.console.proofs.prompt.run_typed.Goals as goal

pub returns-in_err-run_line : goal.returns-in_err-run_line
returns-in_err-run_line g c =
    let fails : c.from_residual.result ≡ Err c.in_err-run_line.field-0.0 = search rules in
    line_unhinted g.D.Device.contents g.D.Device.failures (line_said c.args.command) c.in_err-run_line.field-0.0 c.from_residual.result _ _ _ _ _ _ fails c.in_err-run_line.ensures

pub returns : goal.returns
returns g c =
    line_hinted g.D.Device.contents g.D.Device.failures (line_said c.args.command) c.stepless-hart.result c.tell_hint.result _ _ _ _ _ _ _ c.stepless-hart.ensures c.in_ok-run_line.ensures c.tell_hint.ensures.written c.tell_hint.ensures.prints
