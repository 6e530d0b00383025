use Rattle.fs_machine.proofs.Waits as laws
use Rattle.fs_machine.proofs.laws.waits_where_it_may.Goals as goal

pub returns : goal.returns
returns c = laws.waits_where_it_may
