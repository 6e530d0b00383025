use Rattle.console_threads.proofs.Lemmas.{arith, ◌<◌, ◌≤◌, length, min, line_end, line_more}
use Rattle.console_threads.proofs.tell.write_hart.Goals as goal

pub loop-i-preserved : goal.loop-i-preserved
loop-i-preserved g c =
    let here : c.loop-i.i < length c.args.events.now = omega arith in
    let there : c.loop-i.i < length c.args.outcomes.now = omega arith in
    λ end rest.
    c.loop-i.invariant end
    (line_more c.args.hart _ _ end c.args.events.now c.args.outcomes.now c.loop-i.i c.index-events-i.result c.index-outcomes-i.result here there c.index-events-i.is c.index-outcomes-i.is c.in_ok-write_for.ensures rest)

pub returns : goal.returns
returns g c =
    let all : min (length c.args.events.now) (length c.args.outcomes.now) ≤ c.loop-i.i = omega arith in
    c.loop-i.invariant _ (line_end c.args.hart _ c.args.events.now c.args.outcomes.now c.loop-i.i all)
