use Rattle.fs_machine.proofs.Owned as laws
use Rattle.fs_machine.proofs.laws.leaves_own.Goals as goal

pub returns : goal.returns
returns c = laws.leaves_own
