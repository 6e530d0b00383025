use Rattle.hart_core.proofs.Lemmas.{world_mounted}
use Rattle.hart_core.proofs.world.World.mount.Goals as goal

pub invariant_of-result : goal.invariant_of-result
invariant_of-result g c =
    world_mounted g.D.Device.contents g.D.Device.failures c.args.device c.in-Ok.mounted.0 c.in-Ok.ensures.ok.1 c.in-Ok.mounted.1 c.in-Ok.ensures.ok.2
