use Rattle.call_programs.proofs.Calls.{calls_ask}
use Rattle.call_programs.proofs.calls_ask_so.Goals as goal

pub returns : goal.returns
returns c = calls_ask
