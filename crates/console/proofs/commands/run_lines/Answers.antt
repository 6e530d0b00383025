use Rattle.console.proofs.Lemmas.{rules, arith, ◌≡◌, ◌≤◌, length, map, ◌∙◌, Err, YieldsList-from_vec, YieldsList-turn, YieldsList-end, length_push, length-map, line_said, line_fault, line_more, lines_end, split_at}
use Rattle.console.proofs.commands.run_lines.Goals as goal

pub loop-line-preserved : goal.loop-line-preserved
loop-line-preserved g c =
    let turn = YieldsList-turn (YieldsList-from_vec {s = c.into_iter-line-iterator.result} c.args.commands.items c.into_iter-line-iterator.ensures.into_iter_gives.0 (c.into_iter-line-iterator.ensures.into_iter_gives.1 ∙ c.args.commands.ok.0)) c.loop-line.yielded c.loop-line.line-iterator c.loop-line.yielded_by c.next.result c.next.new.self c.in-Some.line c.in-Some.is c.next.ensures.steps in
    let split = split_at (λ x. line_said x.command) c.args.commands.items (length c.loop-line.yielded) _ c.in-Some.line turn.0 turn.1 (length_push c.loop-line.yielded c.in-Some.line) in
    λ r t end n k.
    c.loop-line.invariant r t end n
    (line_more g.D.Device.contents g.D.Device.failures (map (λ x. line_said x.command) c.args.commands.items) (length c.loop-line.yielded) _ (line_said c.in-Some.line.command) _ _ t _ _ end _ _ n r split c.in_ok-run_line.ensures k)

pub returns-in_err-run_line : goal.returns-in_err-run_line
returns-in_err-run_line g c =
    let turn = YieldsList-turn (YieldsList-from_vec {s = c.into_iter-line-iterator.result} c.args.commands.items c.into_iter-line-iterator.ensures.into_iter_gives.0 (c.into_iter-line-iterator.ensures.into_iter_gives.1 ∙ c.args.commands.ok.0)) c.loop-line.yielded c.loop-line.line-iterator c.loop-line.yielded_by c.next.result c.next.new.self c.in-Some.line c.in-Some.is c.next.ensures.steps in
    let split = split_at (λ x. line_said x.command) c.args.commands.items (length c.loop-line.yielded) _ c.in-Some.line turn.0 turn.1 (length_push c.loop-line.yielded c.in-Some.line) in
    let fails : c.from_residual.result ≡ Err c.in_err-run_line.field-0.0 = search rules in
    c.loop-line.invariant _ _ _ _
    (line_fault g.D.Device.contents g.D.Device.failures (map (λ x. line_said x.command) c.args.commands.items) (length c.loop-line.yielded) _ (line_said c.in-Some.line.command) c.in_err-run_line.field-0.0 c.from_residual.result _ _ _ _ _ _ fails split c.in_err-run_line.ensures)

pub returns : goal.returns
returns g c =
    let end = YieldsList-end (YieldsList-from_vec {s = c.into_iter-line-iterator.result} c.args.commands.items c.into_iter-line-iterator.ensures.into_iter_gives.0 (c.into_iter-line-iterator.ensures.into_iter_gives.1 ∙ c.args.commands.ok.0)) c.loop-line.yielded c.loop-line.line-iterator c.loop-line.yielded_by c.next.result c.next.new.self c.in-None.is c.next.ensures.steps in
    let all : length (map (λ x. line_said x.command) c.args.commands.items) ≤ length c.loop-line.yielded = omega (arith, end.1, length-map c.args.commands.items (λ x. line_said x.command)) in
    c.loop-line.invariant _ _ _ _ (lines_end g.D.Device.contents g.D.Device.failures (map (λ x. line_said x.command) c.args.commands.items) (length c.loop-line.yielded) _ _ _ all)
