use Rattle.kept_histories.proofs.KeptRuns.{kept_lists_are}
use Rattle.kept_histories.proofs.kept_lists_are_the_runs.Goals as goal

pub returns : goal.returns
returns g c = kept_lists_are g.D.Device.contents g.D.Device.failures c.args.world.now
