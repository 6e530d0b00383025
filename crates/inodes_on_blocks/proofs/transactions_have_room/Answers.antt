use Rattle.inodes_on_blocks.proofs.Lemmas.{transactions_have_room}
use Rattle.inodes_on_blocks.proofs.transactions_have_room.Goals as goal

pub returns : goal.returns
returns c = transactions_have_room
