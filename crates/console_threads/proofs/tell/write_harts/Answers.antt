use Rattle.console_threads.proofs.Lemmas.{hart_end, hart_more, eight_harts}
use Rattle.console_threads.proofs.tell.write_harts.Goals as goal

pub loop-hart-preserved : goal.loop-hart-preserved
loop-hart-preserved g c = λ end rest. c.loop-hart.invariant end (hart_more c.args.events.now c.args.outcomes.now _ _ end eight_harts c.loop-hart.hart-index c.loop-hart-test.true c.in_ok-write_hart.ensures rest)

pub returns : goal.returns
returns g c = c.loop-hart.invariant _ (hart_end c.args.events.now c.args.outcomes.now _ eight_harts c.loop-hart.hart-index c.loop-hart-test.false)
