use Rattle.inodes_on_blocks.proofs.Lemmas.{CheckFile, check_file, alone, check_acts, alone_laws, alone_keeps, does_it}
use Rattle.inodes_on_blocks.proofs.acting.checks_act_once.Goals as goal

pub returns : goal.returns
returns c = λ fd. does_it (CheckFile fd) (check_file fd) (λ sizes h lt m. check_acts sizes alone (alone_laws sizes.version) alone_keeps h lt fd m)
