use Rattle.syscalls.proofs.Lemmas.{has_nothing}
use Rattle.syscalls.proofs.place.end_machine.Goals as goal

pub end-requires : goal.end-requires
end-requires c = has_nothing c.args.machine.hand c.requires
