use Rattle.inodes_on_blocks.proofs.Lemmas.{LendDirectory, lend_directory, alone, lend_directory_acts, alone_laws, alone_keeps, does_it}
use Rattle.inodes_on_blocks.proofs.acting.directory_lends_act_once.Goals as goal

pub returns : goal.returns
returns c = λ child. does_it (LendDirectory child) (lend_directory child) (λ sizes h lt m. lend_directory_acts sizes alone (alone_laws sizes.version) alone_keeps h lt child m)
