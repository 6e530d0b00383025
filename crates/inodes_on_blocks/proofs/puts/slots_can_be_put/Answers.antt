use Rattle.inodes_on_blocks.proofs.Lemmas.{slot_laid}
use Rattle.inodes_on_blocks.proofs.puts.slots_can_be_put.Goals as goal

pub returns : goal.returns
returns c = λ disk new owner i s count slots slot entry d h past limit same put. slot_laid disk new owner i s count slots slot entry d h past limit same put
