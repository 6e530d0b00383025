use Rattle.hart_core.proofs.Lemmas.{◌∙◌, sym, subst, DidRun, program_at, hart_step, Passes, state_of, running_of, StepsAt, blocks, code, ran, done_others, done_tells, ran_tells, stays_same, stops_tells, waits_tells}
use Rattle.hart_core.proofs.in_place.step.Goals as goal

pub returns-in-Ran-clause-makes : goal.returns-in-Ran-clause-makes
returns-in-Ran-clause-makes g c =
    let d = g.D.Device in
    (λ i. hart_step blocks code c.args.hart Passes (state_of d.contents d.failures c.args.core.now) (c.if-stopped.false i) (program_at running_of c.args.place.now))
    ∙ ran d.contents d.failures d.Called c.args.hart c.args.core.now c.step.new.core c.in-Ran.kind c.step.new.last c.args.place.now c.step.new.self
    (subst (λ came. StepsAt d.contents d.failures d.Called c.args.hart c.args.place.now c.step.new.self came c.step.new.last c.args.core.now c.step.new.core) c.in-Ran.is c.step.ensures.steps)
    ∙ (λ i. record { came = DidRun c.in-Ran.kind; left = program_at running_of c.step.new.self; shared = state_of d.contents d.failures c.step.new.core; stopped = sym c.if-stopped.false i })

pub returns-then-stopped-clause-tells : goal.returns-then-stopped-clause-tells
returns-then-stopped-clause-tells g c = stays_same c.args.place.now

pub returns-in-Waits-clause-tells : goal.returns-in-Waits-clause-tells
returns-in-Waits-clause-tells g c =
    let d = g.D.Device in
    waits_tells d.contents d.failures d.Called c.args.hart c.step.new.last c.args.core.now c.step.new.core c.args.place.now c.step.new.self
    (subst (λ came. StepsAt d.contents d.failures d.Called c.args.hart c.args.place.now c.step.new.self came c.step.new.last c.args.core.now c.step.new.core) c.in-Waits.is c.step.ensures.steps)

pub returns-in-Ran-clause-tells : goal.returns-in-Ran-clause-tells
returns-in-Ran-clause-tells g c =
    let d = g.D.Device in
    ran_tells d.contents d.failures d.Called c.args.hart c.step.new.last c.args.core.now c.step.new.core c.in-Ran.kind c.args.place.now c.step.new.self
    (subst (λ came. StepsAt d.contents d.failures d.Called c.args.hart c.args.place.now c.step.new.self came c.step.new.last c.args.core.now c.step.new.core) c.in-Ran.is c.step.ensures.steps)

pub returns-in-Done-clause-tells : goal.returns-in-Done-clause-tells
returns-in-Done-clause-tells g c =
    let d = g.D.Device in
    done_tells d.contents d.failures d.Called c.args.hart c.step.new.last c.args.core.now c.step.new.core c.in-Done._kind c.in-Done.reply c.args.place.now c.step.new.self
    (subst (λ came. StepsAt d.contents d.failures d.Called c.args.hart c.args.place.now c.step.new.self came c.step.new.last c.args.core.now c.step.new.core) c.in-Done.is c.step.ensures.steps)

pub returns-in-Done-clause-others : goal.returns-in-Done-clause-others
returns-in-Done-clause-others g c =
    let d = g.D.Device in
    done_others d.contents d.failures d.Called c.args.hart c.step.new.last c.args.core.now c.step.new.core c.in-Done._kind c.in-Done.reply c.args.place.now c.step.new.self
    (subst (λ came. StepsAt d.contents d.failures d.Called c.args.hart c.args.place.now c.step.new.self came c.step.new.last c.args.core.now c.step.new.core) c.in-Done.is c.step.ensures.steps)

pub returns-in-Stopped-clause-tells : goal.returns-in-Stopped-clause-tells
returns-in-Stopped-clause-tells g c =
    let d = g.D.Device in
    stops_tells d.contents d.failures d.Called c.args.hart c.step.new.last c.args.core.now c.step.new.core c.args.place.now c.step.new.self
    (subst (λ came. StepsAt d.contents d.failures d.Called c.args.hart c.args.place.now c.step.new.self came c.step.new.last c.args.core.now c.step.new.core) c.in-Stopped.is c.step.ensures.steps)
