use Rattle.bitmap_alloc.proofs.Runs.{takes_first}
use Rattle.bitmap_alloc.proofs.laws.takes_the_first.Goals as goal

pub returns : goal.returns
returns c = takes_first
