use Rattle.inodes_on_blocks.proofs.Lemmas.{Double, double, alone, double_acts, alone_laws, alone_keeps, does_it}
use Rattle.inodes_on_blocks.proofs.acting.doubles_act_once.Goals as goal

pub returns : goal.returns
returns c = λ fd. does_it (Double fd) (double fd) (λ sizes h lt m. double_acts sizes alone (alone_laws sizes.version) alone_keeps h lt fd m)
