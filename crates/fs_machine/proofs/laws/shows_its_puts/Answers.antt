use Rattle.fs_machine.proofs.Showing as laws
use Rattle.fs_machine.proofs.laws.shows_its_puts.Goals as goal

pub returns : goal.returns
returns c = laws.shows_its_puts
