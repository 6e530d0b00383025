use Rattle.inodes_on_blocks.proofs.Lemmas.{UnlockInode, give, alone, give_acts, alone_laws, alone_keeps, does_it}
use Rattle.inodes_on_blocks.proofs.acting.gives_act_once.Goals as goal

pub returns : goal.returns
returns c = λ n. does_it (UnlockInode n) (give n) (λ sizes h lt m. give_acts sizes alone (alone_laws sizes.version) alone_keeps h lt n m)
