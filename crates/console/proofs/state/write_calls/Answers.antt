use Rattle.console.proofs.Lemmas.{refl, calls_end, calls_more}
use Rattle.console.proofs.state.write_calls.Goals as goal

pub loop-hart-preserved : goal.loop-hart-preserved
loop-hart-preserved g c = λ end rest. c.loop-hart.invariant end (calls_more _ _ end c.args.harts.now c.args.session.now.doing c.loop-hart.hart-index _ c.loop-hart-test.true refl c.in_ok-write_doing.ensures rest)

pub returns : goal.returns
returns g c = c.loop-hart.invariant _ (calls_end _ c.args.harts.now c.args.session.now.doing c.loop-hart.hart-index c.loop-hart-test.false)
