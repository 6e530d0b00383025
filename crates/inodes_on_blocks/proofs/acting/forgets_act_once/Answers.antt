use Rattle.inodes_on_blocks.proofs.Lemmas.{Forget, forget, alone, forget_acts, alone_laws, alone_keeps, does_it}
use Rattle.inodes_on_blocks.proofs.acting.forgets_act_once.Goals as goal

pub returns : goal.returns
returns c = λ n. does_it (Forget n) (forget n) (λ sizes h lt m. forget_acts sizes alone (alone_laws sizes.version) alone_keeps h lt n m)
