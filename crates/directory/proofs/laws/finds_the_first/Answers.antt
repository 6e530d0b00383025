use Rattle.directory.proofs.Lemmas.{finds_first}
use Rattle.directory.proofs.laws.finds_the_first.Goals as goal

pub returns : goal.returns
returns c = finds_first
