use Rattle.console.proofs.Lemmas.{arith, refl, sym, ◌∙◌, length, YieldsList-from_vec, YieldsList-turn, YieldsList-end, length_push, call_said, all_queued, not_queued, one_queued}
use Rattle.console.proofs.lines.queues_of.Goals as goal

pub returns-in-None-started_in : goal.returns-in-None-started_in
returns-in-None-started_in c =
    let turn = YieldsList-turn (YieldsList-from_vec {s = c.into_iter-line-iterator.result} c.args.lines.items c.into_iter-line-iterator.ensures.into_iter_gives.0 (c.into_iter-line-iterator.ensures.into_iter_gives.1 ∙ c.args.lines.ok.0)) c.loop-line.yielded c.loop-line.line-iterator c.loop-line.yielded_by c.next.result c.next.new.self c.in-Some.line c.in-Some.is c.next.ensures.steps in
    let bad = sym c.loop-line.invariant ∙ not_queued c.loop-line.queues c.args.lines.items (length c.loop-line.yielded) c.in-Some.line turn.0 turn.1 c.in-None-started_in.ensures.says in
    rw bad refl

pub loop-line-preserved : goal.loop-line-preserved
loop-line-preserved c =
    let turn = YieldsList-turn (YieldsList-from_vec {s = c.into_iter-line-iterator.result} c.args.lines.items c.into_iter-line-iterator.ensures.into_iter_gives.0 (c.into_iter-line-iterator.ensures.into_iter_gives.1 ∙ c.args.lines.ok.0)) c.loop-line.yielded c.loop-line.line-iterator c.loop-line.yielded_by c.next.result c.next.new.self c.in-Some.line c.in-Some.is c.next.ensures.steps in
    one_queued c.loop-line.queues c.put.new.self c.args.lines.items (length c.loop-line.yielded) _ c.in-Some.line c.in-Some-started_in.hart (call_said c.in-Some-started_in.call) turn.0 turn.1 (length_push c.loop-line.yielded c.in-Some.line) c.in-Some-started_in.ensures.says c.in_ok-put-in-Some-started_in.ensures
    ∙ c.loop-line.invariant

pub returns : goal.returns
returns c =
    let end = YieldsList-end (YieldsList-from_vec {s = c.into_iter-line-iterator.result} c.args.lines.items c.into_iter-line-iterator.ensures.into_iter_gives.0 (c.into_iter-line-iterator.ensures.into_iter_gives.1 ∙ c.args.lines.ok.0)) c.loop-line.yielded c.loop-line.line-iterator c.loop-line.yielded_by c.next.result c.next.new.self c.in-None.is c.next.ensures.steps in
    sym c.loop-line.invariant ∙ all_queued c.loop-line.queues c.args.lines.items (length c.loop-line.yielded) (omega (arith, end.1))
