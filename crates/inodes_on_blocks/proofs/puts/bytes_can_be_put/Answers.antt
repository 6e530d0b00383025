use Rattle.inodes_on_blocks.proofs.Lemmas.{bytes_laid}
use Rattle.inodes_on_blocks.proofs.puts.bytes_can_be_put.Goals as goal

pub returns : goal.returns
returns c = λ disk new owner i k at count bytes written d whole front h put start limit. bytes_laid disk new owner i k at count bytes written d whole front h put start limit
