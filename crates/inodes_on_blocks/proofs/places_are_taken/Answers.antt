use Rattle.inodes_on_blocks.proofs.Lemmas.{places_are_taken}
use Rattle.inodes_on_blocks.proofs.places_are_taken.Goals as goal

pub returns : goal.returns
returns c = places_are_taken
