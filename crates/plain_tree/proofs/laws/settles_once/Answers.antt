use Rattle.plain_tree.proofs.Lemmas.{sym, settle_again}
use Rattle.plain_tree.proofs.laws.settles_once.Goals as goal

pub returns : goal.returns
returns c = λ t. sym (settle_again t)
