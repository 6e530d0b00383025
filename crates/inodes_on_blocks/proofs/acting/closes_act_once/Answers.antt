use Rattle.inodes_on_blocks.proofs.Lemmas.{Shut, close, alone, close_acts, alone_laws, alone_keeps, does_it}
use Rattle.inodes_on_blocks.proofs.acting.closes_act_once.Goals as goal

pub returns : goal.returns
returns c = λ fd. does_it (Shut fd) (close fd) (λ sizes h lt m. close_acts sizes alone (alone_laws sizes.version) alone_keeps h lt fd m)
