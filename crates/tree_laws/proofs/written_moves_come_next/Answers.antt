use Rattle.tree_laws.proofs.Vocabulary.{[]}
use Rattle.tree_laws.proofs.Told.{played_next, played_end, told_more}
use Rattle.tree_laws.proofs.written_moves_come_next.Goals as goal

pub returns-clause-next : goal.returns-clause-next
returns-clause-next c = λ call es rest e r k. played_next call [] es rest e r k

pub returns-clause-last : goal.returns-clause-last
returns-clause-last c = λ call es r k. played_end call [] es r k

pub returns-clause-told : goal.returns-clause-told
returns-clause-told c = told_more
