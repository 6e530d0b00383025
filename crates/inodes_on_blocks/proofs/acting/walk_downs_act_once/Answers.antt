use Rattle.inodes_on_blocks.proofs.Lemmas.{WalkDown, walk_down, alone, walk_down_acts, alone_laws, alone_keeps, does_it}
use Rattle.inodes_on_blocks.proofs.acting.walk_downs_act_once.Goals as goal

pub returns : goal.returns
returns c = λ n. does_it (WalkDown n) (walk_down n) (λ sizes h lt m. walk_down_acts sizes alone (alone_laws sizes.version) alone_keeps h lt n m)
