use Rattle.group_log.proofs.Lemmas.{calls_keep_whole}
use Rattle.group_log.proofs.crash.calls_keep_whole.Goals as goal

pub returns : goal.returns
returns c = calls_keep_whole
