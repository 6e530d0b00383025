use Rattle.plain_tree.proofs.Lemmas.{chain_one}
use Rattle.plain_tree.proofs.one_end.chains_to_one.Goals as goal

pub returns : goal.returns
returns c = chain_one
