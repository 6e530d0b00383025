use Rattle.console.proofs.Lemmas.{line_told}
use Rattle.console.proofs.history.tell_why.Goals as goal

pub returns-in_default : goal.returns-in_default
returns-in_default g c = line_told c.args.why c.write_why.result _ _ c.in_default.not-NoMemory c.write_why.ensures.written c.write_why.ensures.prints
