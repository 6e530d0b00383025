use Rattle.inode_data.proofs.Lemmas.{reads_content}
use Rattle.inode_data.proofs.laws.reads_the_content.Goals as goal

pub returns : goal.returns
returns c = reads_content
