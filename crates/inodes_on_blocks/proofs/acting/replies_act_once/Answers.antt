use Rattle.inodes_on_blocks.proofs.Lemmas.{Say, say, alone, say_acts, alone_laws, alone_keeps, does_it}
use Rattle.inodes_on_blocks.proofs.acting.replies_act_once.Goals as goal

pub returns : goal.returns
returns c = does_it Say say (λ sizes h lt m. say_acts sizes alone (alone_laws sizes.version) alone_keeps h lt m)
