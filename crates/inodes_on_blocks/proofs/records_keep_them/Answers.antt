use Rattle.inodes_on_blocks.proofs.Lemmas.{record_keeps}
use Rattle.inodes_on_blocks.proofs.records_keep_them.Goals as goal

pub returns : goal.returns
returns c = λ contents seats now sizes members g owner' b i h on is put left owners. record_keeps contents seats sizes members g on now owner' b i h is put left owners
