use Rattle.group_log.proofs.Lemmas.{stops_at_a_cut}
use Rattle.group_log.proofs.crash.stops_at_a_cut.Goals as goal

pub returns : goal.returns
returns c = stops_at_a_cut
