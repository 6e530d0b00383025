use Rattle.plain_tree.proofs.Lemmas.{rows_stay}
use Rattle.plain_tree.proofs.laws.rows_stay.Goals as goal

pub returns : goal.returns
returns c = rows_stay
