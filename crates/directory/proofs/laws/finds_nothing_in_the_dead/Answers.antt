use Rattle.directory.proofs.Lemmas.{dead_finds}
use Rattle.directory.proofs.laws.finds_nothing_in_the_dead.Goals as goal

pub returns : goal.returns
returns c = dead_finds
