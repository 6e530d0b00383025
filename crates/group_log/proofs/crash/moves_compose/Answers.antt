use Rattle.group_log.proofs.Lemmas.{then_move}
use Rattle.group_log.proofs.crash.moves_compose.Goals as goal

pub returns : goal.returns
returns g c = then_move g.D.Device.contents
