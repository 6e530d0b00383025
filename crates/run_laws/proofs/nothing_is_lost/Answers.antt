use Rattle.run_laws.proofs.FreedPuts.{frees_put}
use Rattle.run_laws.proofs.Unlinked.{nothing_is_lost}
use Rattle.run_laws.proofs.nothing_is_lost.Goals as goal

pub returns-clause-lost : goal.returns-clause-lost
returns-clause-lost g c = nothing_is_lost g.D.Device.contents g.D.Device.failures c.args.world.now

pub returns-clause-freed : goal.returns-clause-freed
returns-clause-freed g c = frees_put
