use Rattle.directory.proofs.Lemmas.{puts_one}
use Rattle.directory.proofs.laws.puts_one_entry.Goals as goal

pub returns : goal.returns
returns c = puts_one
