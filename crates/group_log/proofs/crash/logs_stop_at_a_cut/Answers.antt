use Rattle.group_log.proofs.Lemmas.{logs_are_logged_runs, logs_stop_at_a_cut}
use Rattle.group_log.proofs.crash.logs_stop_at_a_cut.Goals as goal

pub returns-clause-runs : goal.returns-clause-runs
returns-clause-runs g c = logs_are_logged_runs g.D.Device.contents

pub returns-clause-stops : goal.returns-clause-stops
returns-clause-stops g c = logs_stop_at_a_cut g.D.Device.contents
