use Rattle.run_laws.proofs.Worlds.{worlds_refine}
use Rattle.run_laws.proofs.worlds_refine_whole_inodes.Goals as goal

pub returns : goal.returns
returns g c = worlds_refine g.D.Device.contents g.D.Device.failures c.args.world.now
