use Rattle.bitmap_alloc.proofs.OneBit.{sets_one}
use Rattle.bitmap_alloc.proofs.laws.sets_one_bit.Goals as goal

pub returns : goal.returns
returns c = sets_one
