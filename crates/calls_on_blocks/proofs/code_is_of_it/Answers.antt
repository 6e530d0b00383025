use Rattle.calls_on_blocks.proofs.Lawful.{is_code}
use Rattle.calls_on_blocks.proofs.code_is_of_it.Goals as goal

pub returns : goal.returns
returns c = is_code
