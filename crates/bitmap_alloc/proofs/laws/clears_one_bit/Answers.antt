use Rattle.bitmap_alloc.proofs.OneBit.{clears_one}
use Rattle.bitmap_alloc.proofs.laws.clears_one_bit.Goals as goal

pub returns : goal.returns
returns c = clears_one
