use Rattle.plain_tree.proofs.Lemmas.{climbs_the_same}
use Rattle.plain_tree.proofs.laws.climbs_in_each_version.Goals as goal

pub returns : goal.returns
returns c = climbs_the_same
