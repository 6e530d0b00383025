use Rattle.plain_tree.proofs.Lemmas.{refl, pieces}
use Rattle.plain_tree.proofs.rows.keeps_elements.Goals as goal

pub returns : goal.returns
unfolding pieces
returns c = refl
