use Rattle.inodes_on_blocks.proofs.Lemmas.{Down, down, alone, down_acts, alone_laws, alone_keeps, does_it}
use Rattle.inodes_on_blocks.proofs.acting.downs_act_once.Goals as goal

pub returns : goal.returns
returns c = λ n. does_it (Down n) (down n) (λ sizes h lt m. down_acts sizes alone (alone_laws sizes.version) alone_keeps h lt n m)
