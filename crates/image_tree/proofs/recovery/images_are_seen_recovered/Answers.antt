use Rattle.image_tree.proofs.Lemmas.{checks_see_recovered, trees_see_recovered}
use Rattle.image_tree.proofs.recovery.images_are_seen_recovered.Goals as goal

pub returns-clause-checks : goal.returns-clause-checks
returns-clause-checks c = checks_see_recovered

pub returns-clause-trees : goal.returns-clause-trees
returns-clause-trees c = trees_see_recovered
