use Rattle.console.proofs.Lemmas.{rules, arith, refl, ◌≡◌, ◌≤◌, length, Err, state, wait_end, wait_fault, wait_more}
use Rattle.console.proofs.commands.tell_waits.Goals as goal

pub returns-in_err-tell_wait : goal.returns-in_err-tell_wait
returns-in_err-tell_wait g c =
    let fails : c.from_residual.result ≡ Err c.in_err-tell_wait.field-0.0 = search rules in
    λ left notes.
    c.loop-hart.invariant left notes _ _ _ _ (wait_fault g.D.Device.contents g.D.Device.failures c.args.harts.now c.loop-hart.hart-index _ c.in_err-tell_wait.field-0.0 c.from_residual.result (state c.args.session.now left) _ _ notes fails c.loop-hart-test.true refl c.in_err-tell_wait.ensures.written)

pub loop-hart-preserved : goal.loop-hart-preserved
loop-hart-preserved g c =
    λ left n r t end m k.
    c.loop-hart.invariant left n r t end m (wait_more g.D.Device.contents g.D.Device.failures c.args.harts.now c.loop-hart.hart-index _ (state c.args.session.now left) t _ _ end n m r c.loop-hart-test.true refl c.in_ok-tell_wait.ensures.prints k)

pub returns : goal.returns
returns g c =
    let all : length c.args.harts.now ≤ c.loop-hart.hart-index = omega (arith, c.loop-hart-test.false) in
    λ left notes. c.loop-hart.invariant left notes _ _ _ _ (wait_end g.D.Device.contents g.D.Device.failures c.args.harts.now c.loop-hart.hart-index (state c.args.session.now left) _ notes all)
