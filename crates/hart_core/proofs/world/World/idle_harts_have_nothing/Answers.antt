use Rattle.hart_core.proofs.Lemmas.{subst, IdleHartsHaveNothing, WorldOf, idle_harts_have_nothing}
use Rattle.hart_core.proofs.world.World.idle_harts_have_nothing.Goals as goal

pub returns : goal.returns
returns g c =
    let w = c.self.inside in
    subst (λ (v : WorldOf _). IdleHartsHaveNothing g.D.Device.contents g.D.Device.failures v.harts) c.self.view_is
    (idle_harts_have_nothing g.D.Device.contents g.D.Device.failures w.sizes w.harts c.self.invariant)
