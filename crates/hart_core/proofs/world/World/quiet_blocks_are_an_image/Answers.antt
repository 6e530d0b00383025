use Rattle.hart_core.proofs.Lemmas.{subst, QuietBlocksAreAnImage, WorldOf, quiet_blocks_are_an_image}
use Rattle.hart_core.proofs.world.World.quiet_blocks_are_an_image.Goals as goal

pub returns : goal.returns
returns g c =
    let w = c.self.inside in
    subst (λ (v : WorldOf _). QuietBlocksAreAnImage g.D.Device.contents g.D.Device.failures v.harts) c.self.view_is
    (quiet_blocks_are_an_image g.D.Device.contents g.D.Device.failures w.sizes w.harts c.self.invariant)
