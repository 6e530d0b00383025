use Rattle.fs_machine.proofs.Keeping as keeping
use Rattle.fs_machine.proofs.laws.keeps_whole.Goals as goal

pub returns : goal.returns
returns c = keeping.keeps_whole
