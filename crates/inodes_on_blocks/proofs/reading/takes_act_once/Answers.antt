use Rattle.inodes_on_blocks.proofs.Lemmas.{Take, take, alone, take_acts, alone_laws, alone_keeps, does_it_at}
use Rattle.inodes_on_blocks.proofs.reading.takes_act_once.Goals as goal

pub returns : goal.returns
returns c = λ sizes n looking. does_it_at sizes (Take n looking) (take sizes n looking) (λ h lt m. take_acts sizes alone (alone_laws sizes.version) alone_keeps h lt n looking m)
