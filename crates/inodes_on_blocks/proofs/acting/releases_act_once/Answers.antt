use Rattle.inodes_on_blocks.proofs.Lemmas.{Release, release, alone, release_acts, alone_laws, alone_keeps, does_it}
use Rattle.inodes_on_blocks.proofs.acting.releases_act_once.Goals as goal

pub returns : goal.returns
returns c = λ child. does_it (Release child) (release child) (λ sizes h lt m. release_acts sizes alone (alone_laws sizes.version) alone_keeps h lt child m)
