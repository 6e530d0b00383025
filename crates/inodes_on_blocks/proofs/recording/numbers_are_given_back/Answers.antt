use Rattle.inodes_on_blocks.proofs.Lemmas.{numbers_are_given_back as law}
use Rattle.inodes_on_blocks.proofs.recording.numbers_are_given_back.Goals as goal

pub returns : goal.returns
returns c = law
