use Rattle.inodes_on_blocks.proofs.Lemmas.{untouched_change}
use Rattle.inodes_on_blocks.proofs.puts.untouched_changes_are_kept.Goals as goal

pub returns : goal.returns
returns c = λ disk new owner owner' i d v left h. untouched_change disk new owner owner' i d v left h
