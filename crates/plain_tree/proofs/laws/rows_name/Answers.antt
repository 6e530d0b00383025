use Rattle.plain_tree.proofs.Lemmas.{rows_name}
use Rattle.plain_tree.proofs.laws.rows_name.Goals as goal

pub returns : goal.returns
returns c = rows_name
