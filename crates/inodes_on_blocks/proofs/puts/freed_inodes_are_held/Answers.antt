use Rattle.inodes_on_blocks.proofs.Lemmas.{freed_held}
use Rattle.inodes_on_blocks.proofs.puts.freed_inodes_are_held.Goals as goal

pub returns : goal.returns
returns c = λ disk new owner i d put kind named. freed_held disk new owner i d put kind named
