use Rattle.inodes_on_blocks.proofs.Lemmas.{Leave, leave, alone, leave_acts, alone_laws, alone_keeps, does_it}
use Rattle.inodes_on_blocks.proofs.acting.leaves_act_once.Goals as goal

pub returns : goal.returns
returns c = does_it Leave leave (λ sizes h lt m. leave_acts sizes alone (alone_laws sizes.version) alone_keeps h lt m)
