use Rattle.inodes_on_blocks.proofs.Lemmas.{JoinFile, join_file, alone, join_file_acts, alone_laws, alone_keeps, does_it}
use Rattle.inodes_on_blocks.proofs.acting.file_joins_act_once.Goals as goal

pub returns : goal.returns
returns c = λ fd. does_it (JoinFile fd) (join_file fd) (λ sizes h lt m. join_file_acts sizes alone (alone_laws sizes.version) alone_keeps h lt fd m)
