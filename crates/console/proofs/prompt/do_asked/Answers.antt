use Rattle.console.proofs.Lemmas.{rules, ap, ◌≡◌, true, false, Ok, Err, asked_by, Nothing, Help, State, Quit, Run, line_said, done_as, ran, ran_to_fault, told_then, untold, gives_at_once}
use Rattle.console.proofs.prompt.do_asked.Goals as goal

pub returns-in-Nothing : goal.returns-in-Nothing
returns-in-Nothing g c = done_as g.D.Device.contents g.D.Device.failures c.args.help.now (asked_by c.args.asked) Nothing _ _ _ _ _ _ (Ok true) (ap asked_by c.in-Nothing.is) (gives_at_once true _ _ _)

pub returns-in-Quit : goal.returns-in-Quit
returns-in-Quit g c = done_as g.D.Device.contents g.D.Device.failures c.args.help.now (asked_by c.args.asked) Quit _ _ _ _ _ _ (Ok false) (ap asked_by c.in-Quit.is) (gives_at_once false _ _ _)

pub returns-in_ok-tell-in-Help : goal.returns-in_ok-tell-in-Help
returns-in_ok-tell-in-Help g c =
    done_as g.D.Device.contents g.D.Device.failures c.args.help.now (asked_by c.args.asked) Help _ _ _ _ _ _ (Ok true) (ap asked_by c.in-Help.is) (told_then _ true _ _ _ _ c.in_ok-tell-in-Help.ensures.prints)

pub returns-in_err-tell-in-Help : goal.returns-in_err-tell-in-Help
returns-in_err-tell-in-Help g c =
    let fails : c.from_residual.result ≡ Err c.in_err-tell-in-Help.field-0.0 = search rules in
    done_as g.D.Device.contents g.D.Device.failures c.args.help.now (asked_by c.args.asked) Help _ _ _ _ _ _ c.from_residual.result (ap asked_by c.in-Help.is) (untold _ _ c.in_err-tell-in-Help.field-0.0 c.from_residual.result _ _ _ _ fails c.in_err-tell-in-Help.ensures.written)

pub returns-in_ok-tell_state-in-State : goal.returns-in_ok-tell_state-in-State
returns-in_ok-tell_state-in-State g c =
    done_as g.D.Device.contents g.D.Device.failures c.args.help.now (asked_by c.args.asked) State _ _ _ _ _ _ (Ok true) (ap asked_by c.in-State.is) (told_then _ true _ _ _ _ c.in_ok-tell_state-in-State.ensures.prints)

pub returns-in_err-tell_state-in-State : goal.returns-in_err-tell_state-in-State
returns-in_err-tell_state-in-State g c =
    let fails : c.from_residual-in_err-tell_state-in-State.result ≡ Err c.in_err-tell_state-in-State.field-0.0 = search rules in
    done_as g.D.Device.contents g.D.Device.failures c.args.help.now (asked_by c.args.asked) State _ _ _ _ _ _ c.from_residual-in_err-tell_state-in-State.result (ap asked_by c.in-State.is)
    (untold _ _ c.in_err-tell_state-in-State.field-0.0 c.from_residual-in_err-tell_state-in-State.result _ _ _ _ fails c.in_err-tell_state-in-State.ensures.written)

pub returns-in_ok-run_typed-in-Run : goal.returns-in_ok-run_typed-in-Run
returns-in_ok-run_typed-in-Run g c =
    done_as g.D.Device.contents g.D.Device.failures c.args.help.now (asked_by c.args.asked) (Run (line_said c.in-Run.command)) _ _ _ _ _ _ (Ok true) (ap asked_by c.in-Run.is)
    (ran g.D.Device.contents g.D.Device.failures c.args.help.now (line_said c.in-Run.command) _ _ _ _ _ _ c.in_ok-run_typed-in-Run.ensures)

pub returns-in_err-run_typed-in-Run : goal.returns-in_err-run_typed-in-Run
returns-in_err-run_typed-in-Run g c =
    let fails : c.from_residual-in_err-run_typed-in-Run.result ≡ Err c.in_err-run_typed-in-Run.field-0.0 = search rules in
    done_as g.D.Device.contents g.D.Device.failures c.args.help.now (asked_by c.args.asked) (Run (line_said c.in-Run.command)) _ _ _ _ _ _ c.from_residual-in_err-run_typed-in-Run.result (ap asked_by c.in-Run.is)
    (ran_to_fault g.D.Device.contents g.D.Device.failures c.args.help.now (line_said c.in-Run.command) c.in_err-run_typed-in-Run.field-0.0 c.from_residual-in_err-run_typed-in-Run.result _ _ _ _ _ _ fails c.in_err-run_typed-in-Run.ensures)
