use Rattle.console.proofs.Lemmas.{rules, arith, refl, ◌≡◌, ◌≤◌, length, Err, turn_end, turn_fault, turn_more}
use Rattle.console.proofs.commands.turn.Goals as goal

pub returns-in_err-act : goal.returns-in_err-act
returns-in_err-act g c =
    let fails : c.from_residual.result ≡ Err c.in_err-act.field-0.0 = search rules in
    c.loop-hart.invariant _ _ _ _ (turn_fault g.D.Device.contents g.D.Device.failures c.args.until c.args.harts.now c.loop-hart.hart-index _ c.loop-hart.flow c.in_err-act.field-0.0 c.from_residual.result _ _ _ _ _ _ fails c.loop-hart-test.true refl c.in_err-act.ensures)

pub loop-hart-preserved : goal.loop-hart-preserved
loop-hart-preserved g c =
    λ r t end n k.
    c.loop-hart.invariant r t end n (turn_more g.D.Device.contents g.D.Device.failures c.args.until c.args.harts.now c.loop-hart.hart-index _ c.loop-hart.flow _ _ _ _ t _ _ end _ _ n r c.loop-hart-test.true refl c.joined-flow.ensures c.in_ok-act.ensures k)

pub returns : goal.returns
returns g c =
    let all : length c.args.harts.now ≤ c.loop-hart.hart-index = omega (arith, c.loop-hart-test.false) in
    c.loop-hart.invariant _ _ _ _ (turn_end g.D.Device.contents g.D.Device.failures c.args.until c.args.harts.now c.loop-hart.hart-index c.loop-hart.flow _ _ _ all)
