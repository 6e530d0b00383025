use Rattle.hart_core.proofs.Lemmas.{◌≡◌, ◌∙◌, ap, sym, subst, IsWellFormed, WorldOf, same_sizes, sizes_of, world_left}
use Rattle.hart_core.proofs.world.World.unmount.Goals as goal

pub returns-clause-well : goal.returns-clause-well
returns-clause-well g c =
    let w = c.self.inside in
    subst (λ (d : _). IsWellFormed (g.D.Device.contents d)) (sym c.unmount.ensures) (world_left g.D.Device.contents g.D.Device.failures w.sizes w.harts c.self.invariant)

pub returns-clause-sizes : goal.returns-clause-sizes
returns-clause-sizes g c =
    let w = c.self.inside in
    subst (λ (d : _). sizes_of (g.D.Device.contents d) ≡ w.sizes) (sym c.unmount.ensures) (same_sizes g.D.Device.contents g.D.Device.failures w.sizes w.harts c.self.invariant)
    ∙ ap (λ (v : WorldOf _). v.sizes) c.self.view_is
