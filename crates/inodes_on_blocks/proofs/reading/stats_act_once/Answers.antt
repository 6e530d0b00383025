use Rattle.inodes_on_blocks.proofs.Lemmas.{StatFile, stat_file, alone, stat_acts, alone_laws, alone_keeps, does_it_at}
use Rattle.inodes_on_blocks.proofs.reading.stats_act_once.Goals as goal

pub returns : goal.returns
returns c = λ sizes fd. does_it_at sizes (StatFile fd) (stat_file sizes fd) (λ h lt m. stat_acts sizes alone (alone_laws sizes.version) alone_keeps h lt fd m)
