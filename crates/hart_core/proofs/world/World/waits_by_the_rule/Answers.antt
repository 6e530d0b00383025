use Rattle.hart_core.proofs.Lemmas.{subst, WaitsByTheRule, WorldOf, waits_by_the_rule}
use Rattle.hart_core.proofs.world.World.waits_by_the_rule.Goals as goal

pub returns : goal.returns
returns g c =
    let w = c.self.inside in
    subst (λ (v : WorldOf _). WaitsByTheRule g.D.Device.contents g.D.Device.failures v.sizes v.harts) c.self.view_is
    (waits_by_the_rule g.D.Device.contents g.D.Device.failures w.sizes w.harts c.self.invariant)
