use Rattle.console.proofs.Lemmas.{rules, ap, ◌≡◌, [], ◌∷◌, Err, call_said, line_said, all_harts, in_steps, to_end, up_to, all_is, end_is, of_line, run_line, run_line_fault, settle_line, start_line, start_line_fault, step_line, step_line_fault, upto_is, with_plan, with_turns}
use Rattle.script.specs.Said as said
use Rattle.console.proofs.commands.run_line.Goals as goal

pub returns-in_err-_flow-in-Start : goal.returns-in_err-_flow-in-Start
returns-in_err-_flow-in-Start g c =
    let fails : c.from_residual.result ≡ Err c.in_err-_flow-in-Start.field-0.0 = search rules in
    of_line g.D.Device.contents g.D.Device.failures (line_said c.args.command) (said.Start c.in-Start.hart (call_said c.in-Start.call)) _ _ _ _ _ _ c.from_residual.result (ap line_said c.in-Start.is)
    (start_line_fault g.D.Device.contents g.D.Device.failures c.in-Start.hart (call_said c.in-Start.call) c.in_err-_flow-in-Start.field-0.0 c.from_residual.result _ _ _ _ _ _ fails c.in_err-_flow-in-Start.ensures)

pub returns-in_err-_flow-in-Do : goal.returns-in_err-_flow-in-Do
returns-in_err-_flow-in-Do g c =
    let fails : c.from_residual-in_err-_flow-in-Do.result ≡ Err c.in_err-_flow-in-Do.field-0.0 = search rules in
    of_line g.D.Device.contents g.D.Device.failures (line_said c.args.command) (said.Run c.in-Do.hart (call_said c.in-Do.call)) _ _ _ _ _ _ c.from_residual-in_err-_flow-in-Do.result (ap line_said c.in-Do.is)
    (run_line_fault g.D.Device.contents g.D.Device.failures c.in-Do.hart (call_said c.in-Do.call) c.in_err-_flow-in-Do.field-0.0 c.from_residual-in_err-_flow-in-Do.result _ _ _ _ _ _ fails c.in_err-_flow-in-Do.ensures)

pub returns-in_err-_last-in-Step : goal.returns-in_err-_last-in-Step
returns-in_err-_last-in-Step g c =
    let fails : c.from_residual-in_err-_last-in-Step.result ≡ Err c.in_err-_last-in-Step.field-0.0 = search rules in
    of_line g.D.Device.contents g.D.Device.failures (line_said c.args.command) (said.Step c.in-Step.hart c.in-Step.steps) _ _ _ _ _ _ c.from_residual-in_err-_last-in-Step.result (ap line_said c.in-Step.is)
    (step_line_fault g.D.Device.contents g.D.Device.failures c.in-Step.hart c.in-Step.steps c.in_err-_last-in-Step.field-0.0 c.from_residual-in_err-_last-in-Step.result _ _ _ _ _ _ fails
    (with_turns g.D.Device.contents g.D.Device.failures c.in_steps.result (in_steps c.in-Step.steps) (c.in-Step.hart ∷ []) _ _ _ _ _ _ _ c.in_steps.ensures c.in_err-_last-in-Step.ensures))

pub returns-in_ok-_flow-in-Start : goal.returns-in_ok-_flow-in-Start
returns-in_ok-_flow-in-Start g c =
    of_line g.D.Device.contents g.D.Device.failures (line_said c.args.command) (said.Start c.in-Start.hart (call_said c.in-Start.call)) _ _ _ _ _ _ _ (ap line_said c.in-Start.is)
    (start_line g.D.Device.contents g.D.Device.failures c.in-Start.hart (call_said c.in-Start.call) c.in_ok-_flow-in-Start._flow _ _ _ _ _ _ c.in_ok-_flow-in-Start.ensures)

pub returns-in_ok-_flow-in-Do : goal.returns-in_ok-_flow-in-Do
returns-in_ok-_flow-in-Do g c =
    of_line g.D.Device.contents g.D.Device.failures (line_said c.args.command) (said.Run c.in-Do.hart (call_said c.in-Do.call)) _ _ _ _ _ _ c.settle.result (ap line_said c.in-Do.is)
    (run_line g.D.Device.contents g.D.Device.failures c.in-Do.hart (call_said c.in-Do.call) c.in_ok-_flow-in-Do._flow _ _ _ _ _ _ _ _ _ c.settle.result c.in_ok-_flow-in-Do.ensures
    (with_plan g.D.Device.contents g.D.Device.failures c.to_end.result to_end (c.in-Do.hart ∷ []) _ _ _ _ _ _ c.settle.result c.to_end.ensures c.settle.ensures))

pub returns-in_ok-_last-in-Step : goal.returns-in_ok-_last-in-Step
returns-in_ok-_last-in-Step g c =
    of_line g.D.Device.contents g.D.Device.failures (line_said c.args.command) (said.Step c.in-Step.hart c.in-Step.steps) _ _ _ _ _ _ _ (ap line_said c.in-Step.is)
    (step_line g.D.Device.contents g.D.Device.failures c.in-Step.hart c.in-Step.steps c.in_ok-_last-in-Step._last _ _ _ _ _ _
    (with_turns g.D.Device.contents g.D.Device.failures c.in_steps.result (in_steps c.in-Step.steps) (c.in-Step.hart ∷ []) _ _ _ _ _ _ _ c.in_steps.ensures c.in_ok-_last-in-Step.ensures))

pub returns-in-Upto : goal.returns-in-Upto
returns-in-Upto g c =
    of_line g.D.Device.contents g.D.Device.failures (line_said c.args.command) (said.Upto c.in-Upto.hart c.in-Upto.kind c.in-Upto.steps) _ _ _ _ _ _ c.settle-in-Upto.result (ap line_said c.in-Upto.is)
    (settle_line g.D.Device.contents g.D.Device.failures (said.Upto c.in-Upto.hart c.in-Upto.kind c.in-Upto.steps) (up_to c.in-Upto.kind c.in-Upto.steps) (c.in-Upto.hart ∷ []) _ _ _ _ _ _ c.settle-in-Upto.result (upto_is g.D.Device.contents g.D.Device.failures c.in-Upto.hart c.in-Upto.kind c.in-Upto.steps)
    (with_plan g.D.Device.contents g.D.Device.failures c.up_to.result (up_to c.in-Upto.kind c.in-Upto.steps) (c.in-Upto.hart ∷ []) _ _ _ _ _ _ c.settle-in-Upto.result c.up_to.ensures c.settle-in-Upto.ensures))

pub returns-in-End : goal.returns-in-End
returns-in-End g c =
    of_line g.D.Device.contents g.D.Device.failures (line_said c.args.command) (said.End c.in-End.hart) _ _ _ _ _ _ c.settle-in-End.result (ap line_said c.in-End.is)
    (settle_line g.D.Device.contents g.D.Device.failures (said.End c.in-End.hart) to_end (c.in-End.hart ∷ []) _ _ _ _ _ _ c.settle-in-End.result (end_is g.D.Device.contents g.D.Device.failures c.in-End.hart)
    (with_plan g.D.Device.contents g.D.Device.failures c.to_end-in-End.result to_end (c.in-End.hart ∷ []) _ _ _ _ _ _ c.settle-in-End.result c.to_end-in-End.ensures c.settle-in-End.ensures))

pub returns-in-All : goal.returns-in-All
returns-in-All g c =
    of_line g.D.Device.contents g.D.Device.failures (line_said c.args.command) said.All _ _ _ _ _ _ c.settle-in-All.result (ap line_said c.in-All.is)
    (settle_line g.D.Device.contents g.D.Device.failures said.All to_end all_harts _ _ _ _ _ _ c.settle-in-All.result (all_is g.D.Device.contents g.D.Device.failures)
    (with_plan g.D.Device.contents g.D.Device.failures c.to_end-in-All.result to_end all_harts _ _ _ _ _ _ c.settle-in-All.result c.to_end-in-All.ensures c.settle-in-All.ensures))
