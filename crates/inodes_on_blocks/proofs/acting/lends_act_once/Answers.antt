use Rattle.inodes_on_blocks.proofs.Lemmas.{Lend, lend, alone, lend_acts, alone_laws, alone_keeps, does_it}
use Rattle.inodes_on_blocks.proofs.acting.lends_act_once.Goals as goal

pub returns : goal.returns
returns c = λ child from. does_it (Lend child from) (lend child from) (λ sizes h lt m. lend_acts sizes alone (alone_laws sizes.version) alone_keeps h lt child from m)
