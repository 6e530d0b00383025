use Rattle.inodes_on_blocks.proofs.Lemmas.{SetDirectory, settle, alone, settle_acts, alone_laws, alone_keeps, does_it}
use Rattle.inodes_on_blocks.proofs.acting.settles_act_once.Goals as goal

pub returns : goal.returns
returns c = λ n. does_it (SetDirectory n) (settle n) (λ sizes h lt m. settle_acts sizes alone (alone_laws sizes.version) alone_keeps h lt n m)
