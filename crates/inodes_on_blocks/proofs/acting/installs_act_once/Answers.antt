use Rattle.inodes_on_blocks.proofs.Lemmas.{Install, install, alone, install_acts, alone_laws, alone_keeps, does_it}
use Rattle.inodes_on_blocks.proofs.acting.installs_act_once.Goals as goal

pub returns : goal.returns
returns c = λ f inode_type. does_it (Install f inode_type) (install f inode_type) (λ sizes h lt m. install_acts sizes alone (alone_laws sizes.version) alone_keeps h lt f inode_type m)
