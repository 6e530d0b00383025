use Rattle.calls_on_blocks.proofs.Lawful.{lawful}
use Rattle.calls_on_blocks.proofs.calls_are_lawful.Goals as goal

pub returns : goal.returns
returns c = lawful
