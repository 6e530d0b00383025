use Rattle.inodes_on_blocks.proofs.Lemmas.{seen_put}
use Rattle.inodes_on_blocks.proofs.seen.seen_puts_are_puts.Goals as goal

pub returns : goal.returns
returns c = λ sizes see now n b these put. seen_put sizes see now n b these put
