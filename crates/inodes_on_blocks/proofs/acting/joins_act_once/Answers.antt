use Rattle.inodes_on_blocks.proofs.Lemmas.{Join, join, alone, join_acts, alone_laws, alone_keeps, does_it}
use Rattle.inodes_on_blocks.proofs.acting.joins_act_once.Goals as goal

pub returns : goal.returns
returns c = does_it Join join (λ sizes h lt m. join_acts sizes alone (alone_laws sizes.version) alone_keeps h lt m)
