use Rattle.inodes_on_blocks.proofs.Lemmas.{UpStart, up_start, alone, up_start_acts, alone_laws, alone_keeps, does_it}
use Rattle.inodes_on_blocks.proofs.acting.starts_act_once.Goals as goal

pub returns : goal.returns
returns c = λ absolute. does_it (UpStart absolute) (up_start absolute) (λ sizes h lt m. up_start_acts sizes alone (alone_laws sizes.version) alone_keeps h lt absolute m)
