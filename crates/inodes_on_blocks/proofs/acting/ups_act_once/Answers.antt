use Rattle.inodes_on_blocks.proofs.Lemmas.{Up, up, alone, up_acts, alone_laws, alone_keeps, does_it}
use Rattle.inodes_on_blocks.proofs.acting.ups_act_once.Goals as goal

pub returns : goal.returns
returns c = λ n. does_it (Up n) (up n) (λ sizes h lt m. up_acts sizes alone (alone_laws sizes.version) alone_keeps h lt n m)
