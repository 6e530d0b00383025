use Rattle.whole_calls.proofs.Lemmas.{arith, begins_is}
use Rattle.whole_calls.proofs.writing.Write.new.Goals as goal

pub returns-else-is_empty-clause-program : goal.returns-else-is_empty-clause-program
returns-else-is_empty-clause-program c fd = begins_is fd c.args.bytes.now (grind arith)
