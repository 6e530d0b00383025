use Rattle.hart_core.proofs.Lemmas.{◌≡◌, ◌∙◌, None, arith, refl, set, sym, subst, get_or, set-set, Step, WasIdle, plain_makes, PlainHonest, step_gives, honest_here, Passes, state_of, running_of, blocks, code, MayStep, HartsOf, said, outcome_of, programs_of, SetsAt, TellsOutcome, heard_at, set-own, stays_same, all_set, idle_past, honest_past, is_at}
use Rattle.hart_core.proofs.harts.Harts.step.Goals as goal

pub step-requires-clause-may : goal.step-requires-clause-may
step-requires-clause-may g c = subst (λ (v : HartsOf _). MayStep c.args.hart (programs_of g.D.Device.contents g.D.Device.failures v)) (sym c.self.view_is) c.requires.may

pub step-requires-clause-fits : goal.step-requires-clause-fits
step-requires-clause-fits g c = c.self.invariant.fits c.args.hart

pub invariant_of-self : goal.invariant_of-self
invariant_of-self g c =
    let w = c.self.inside in
    let eight = c.self.invariant.long in
    let less = c.if-hart-ge-HARTS.false in
    all_set c.args.hart (state_of g.D.Device.contents g.D.Device.failures w.core) (state_of g.D.Device.contents g.D.Device.failures c.step.new.core) w.calls c.step.new.self (get_or c.step.new.self c.args.hart None)
    (omega (arith, eight, less)) c.step.ensures.kept c.step.ensures.others c.self.invariant c.step.ensures.fits

pub returns-clause-makes : goal.returns-clause-makes
returns-clause-makes g c =
    let w = c.self.inside in
    let h = c.args.hart in
    let t = state_of g.D.Device.contents g.D.Device.failures c.step.new.core in
    let eight = c.self.invariant.long in
    let less = c.if-hart-ge-HARTS.false in
    let left = get_or c.step.new.self h None in
    subst
    (λ (v : HartsOf _). plain_makes blocks code (Step h (said c.step.result t)) (programs_of g.D.Device.contents g.D.Device.failures v)
    ≡ record { came = outcome_of c.step.result; after = programs_of g.D.Device.contents g.D.Device.failures (record { core = c.step.new.core; stopped = c.step.new.stopped; children = w.children; calls = c.step.new.self }) })
    c.self.view_is
    (step_gives blocks code running_of (state_of g.D.Device.contents g.D.Device.failures w.core) w.stopped w.calls h (get_or w.calls h None) left (set w.calls h None) c.step.new.self (is_at w.calls h (omega (arith, eight, less))) refl (c.step.ensures.kept ∙ sym (set-set w.calls h None left)) (said c.step.result t)
    (outcome_of c.step.result) t c.step.new.stopped c.step.ensures.makes)

pub returns-clause-honest : goal.returns-clause-honest
returns-clause-honest g c =
    let w = c.self.inside in
    let h = c.args.hart in
    let t = state_of g.D.Device.contents g.D.Device.failures c.step.new.core in
    let eight = c.self.invariant.long in
    let less = c.if-hart-ge-HARTS.false in
    let left = get_or c.step.new.self h None in
    subst (λ (v : HartsOf _). PlainHonest blocks code (Step h (said c.step.result t)) (programs_of g.D.Device.contents g.D.Device.failures v)) c.self.view_is
    (honest_here blocks code running_of (state_of g.D.Device.contents g.D.Device.failures w.core) w.stopped w.calls h (get_or w.calls h None) left (set w.calls h None) c.step.new.self (is_at w.calls h (omega (arith, eight, less))) refl (c.step.ensures.kept ∙ sym (set-set w.calls h None left))
    (said c.step.result t) c.step.ensures.honest)

-- there is no such hart
pub returns-then-hart-ge-HARTS-clause-makes : goal.returns-then-hart-ge-HARTS-clause-makes
returns-then-hart-ge-HARTS-clause-makes g c =
    let w = c.self.inside in
    let long = c.self.invariant.long in
    let past = c.if-hart-ge-HARTS.true in
    subst
    (λ (v : HartsOf _). plain_makes blocks code (Step c.args.hart Passes) (programs_of g.D.Device.contents g.D.Device.failures v) ≡ record { came = WasIdle; after = programs_of g.D.Device.contents g.D.Device.failures v }) c.self.view_is
    (idle_past c.args.hart Passes (state_of g.D.Device.contents g.D.Device.failures w.core) w.stopped w.calls (omega (arith, long, past)))

pub returns-then-hart-ge-HARTS-clause-honest : goal.returns-then-hart-ge-HARTS-clause-honest
returns-then-hart-ge-HARTS-clause-honest g c =
    let w = c.self.inside in
    let long = c.self.invariant.long in
    let past = c.if-hart-ge-HARTS.true in
    subst (λ (v : HartsOf _). PlainHonest blocks code (Step c.args.hart Passes) (programs_of g.D.Device.contents g.D.Device.failures v)) c.self.view_is
    (honest_past c.args.hart Passes (state_of g.D.Device.contents g.D.Device.failures w.core) w.stopped w.calls (omega (arith, long, past)))

pub returns-clause-tells : goal.returns-clause-tells
returns-clause-tells g c =
    let h = c.args.hart in
    let left = get_or c.step.new.self h None in
    let s = state_of g.D.Device.contents g.D.Device.failures in
    subst (λ (v : HartsOf _). TellsOutcome h (get_or v.calls h None) c.step.result (heard_at c.step.new.last left) left (s v.core) (s c.step.new.core)) c.self.view_is c.step.ensures.tells

pub returns-clause-others : goal.returns-clause-others
returns-clause-others g c = subst (λ (v : HartsOf _). SetsAt c.args.hart v.calls c.step.new.self) c.self.view_is c.step.ensures.kept

pub returns-then-hart-ge-HARTS-clause-tells : goal.returns-then-hart-ge-HARTS-clause-tells
returns-then-hart-ge-HARTS-clause-tells g c = stays_same (get_or c.args.self.now.calls c.args.hart None)

pub returns-then-hart-ge-HARTS-clause-others : goal.returns-then-hart-ge-HARTS-clause-others
returns-then-hart-ge-HARTS-clause-others g c = set-own c.args.self.now.calls c.args.hart
