use Rattle.inodes_on_blocks.proofs.Lemmas.{empty_laid, empty_named}
use Rattle.inodes_on_blocks.proofs.puts.empty_inodes_are_laid_out.Goals as goal

pub returns : goal.returns
returns c = λ disk owner i d v is size none. (empty_laid disk owner i d v is size none, empty_named disk owner i d v is size none)
