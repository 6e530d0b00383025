use Rattle.inodes_on_blocks.proofs.Lemmas.{untouched}
use Rattle.inodes_on_blocks.proofs.puts.untouched_inodes_are_kept.Goals as goal

pub returns : goal.returns
returns c = λ disk new owner owner' i v left h. untouched disk new owner owner' i v left h
