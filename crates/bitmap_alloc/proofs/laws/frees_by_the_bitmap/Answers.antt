use Rattle.bitmap_alloc.proofs.Runs.{frees_bitmap}
use Rattle.bitmap_alloc.proofs.laws.frees_by_the_bitmap.Goals as goal

pub returns : goal.returns
returns c = frees_bitmap
