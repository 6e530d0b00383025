use Rattle.calls_on_blocks.proofs.History.{makes_moves}
use Rattle.calls_on_blocks.proofs.mounts_make_moves.Goals as goal

pub returns : goal.returns
returns c = makes_moves
