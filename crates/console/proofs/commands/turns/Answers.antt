use Rattle.console.proofs.Lemmas.{rules, arith, sym, ◌∙◌, ◌≡◌, suc, ◌+◌, ◌-◌, Err, turns_end, turns_fault, turns_more, turns_rest}
use Rattle.console.proofs.commands.turns.Goals as goal

pub returns-then-not-goes_on : goal.returns-then-not-goes_on
returns-then-not-goes_on g c =
    c.loop-turn.invariant _ _ _ _ (turns_rest g.D.Device.contents g.D.Device.failures c.args.plan.now c.args.harts.now (c.args.plan.now.most - c.loop-turn._turn) c.loop-turn.last _ _ _ (sym c.goes_on.ensures ∙ c.if-not-goes_on.true))

pub returns-in_err-last : goal.returns-in_err-last
returns-in_err-last g c =
    let fails : c.from_residual.result ≡ Err c.in_err-last.field-0.0 = search rules in
    let left : c.args.plan.now.most - c.loop-turn._turn ≡ suc (c.args.plan.now.most - (c.loop-turn._turn + 1)) = omega (arith, c.loop-turn-test.true) in
    c.loop-turn.invariant _ _ _ _ (turns_fault g.D.Device.contents g.D.Device.failures c.args.plan.now c.args.harts.now _ _ c.loop-turn.last c.in_err-last.field-0.0 c.from_residual.result _ _ _ _ _ _ fails left (sym c.goes_on.ensures ∙ c.if-not-goes_on.false) c.in_err-last.ensures)

pub loop-turn-preserved : goal.loop-turn-preserved
loop-turn-preserved g c =
    λ r t end n k.
    let left : c.args.plan.now.most - c.loop-turn._turn ≡ suc (c.args.plan.now.most - (c.loop-turn._turn + 1)) = omega (arith, c.loop-turn-test.true) in
    c.loop-turn.invariant r t end n (turns_more g.D.Device.contents g.D.Device.failures c.args.plan.now c.args.harts.now _ _ c.loop-turn.last _ _ _ t _ _ end _ _ n r left (sym c.goes_on.ensures ∙ c.if-not-goes_on.false) c.in_ok-last.ensures k)

pub returns : goal.returns
returns g c =
    let none : c.args.plan.now.most - c.loop-turn._turn ≡ 0 = omega (arith, c.loop-turn-test.false) in
    c.loop-turn.invariant _ _ _ _ (turns_end g.D.Device.contents g.D.Device.failures c.args.plan.now c.args.harts.now _ c.loop-turn.last _ _ _ none)
