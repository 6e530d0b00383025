use Rattle.inodes_on_blocks.proofs.Lemmas.{writes_within}
use Rattle.inodes_on_blocks.proofs.files.writes_act_once.Goals as goal

pub returns : goal.returns
returns c = λ sizes fd n offset bytes some are. writes_within sizes fd n offset bytes some are
