use Rattle.hart_core.proofs.Lemmas.{None, subst, get_or, SetsAt, TellsOutcome, heard_at, Step, said, outcome_of, shared_of, WorldOf, Makes, may_here, made_step, world_stepped}
use Rattle.hart_core.proofs.world.World.step.Goals as goal

pub step-requires : goal.step-requires
step-requires g c =
    let w = c.self.inside in
    record { may = may_here g.D.Device.contents g.D.Device.failures w.sizes w.harts c.self.invariant c.args.hart }

pub invariant_of-self : goal.invariant_of-self
invariant_of-self g c =
    let w = c.self.inside in
    let did = c.step.ensures in
    world_stepped g.D.Device.contents g.D.Device.failures w.sizes w.harts c.self.invariant c.args.hart (said c.step.result (shared_of g.D.Device.contents g.D.Device.failures c.step.new.self)) c.step.result c.step.new.self did.honest did.makes did.children

pub returns-clause-makes : goal.returns-clause-makes
returns-clause-makes g c =
    let w = c.self.inside in
    let r = c.step.result in
    let s = shared_of g.D.Device.contents g.D.Device.failures c.step.new.self in
    subst (λ (v : WorldOf _). Makes g.D.Device.contents g.D.Device.failures v.sizes (Step c.args.hart (said r s)) v.harts (outcome_of r) c.step.new.self) c.self.view_is
    (made_step g.D.Device.contents g.D.Device.failures w.sizes w.harts c.self.invariant c.args.hart (said r s) r c.step.new.self c.step.ensures.makes c.step.ensures.children)

pub returns-clause-tells : goal.returns-clause-tells
returns-clause-tells g c =
    let h = c.args.hart in
    let new = c.step.new.self in
    let left = get_or new.calls h None in
    let s = shared_of g.D.Device.contents g.D.Device.failures in
    subst (λ (v : WorldOf _). TellsOutcome h (get_or v.harts.calls h None) c.step.result (heard_at c.step.new.last left) left (s v.harts) (s new)) c.self.view_is c.step.ensures.tells

pub returns-clause-others : goal.returns-clause-others
returns-clause-others g c = subst (λ (v : WorldOf _). SetsAt c.args.hart v.harts.calls c.step.new.self.calls) c.self.view_is c.step.ensures.others
