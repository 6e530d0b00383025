-- Each part has an operation to make.
use Rattle.bitmap_alloc.proofs.Vocabulary.{HasOne, first, fetch_has, Hand, fetch_left, free_left, take_left, FreeBlock, TakeBlock}
use Rattle.bitmap_alloc.specs.declared.free_block.FreeBlock.TheVariants as free
use Rattle.bitmap_alloc.specs.declared.take_block.TakeBlock.TheVariants as take

pub free_has : (m : FreeBlock) (h : Hand) → HasOne (free_left m h)
free_has (free.Bitmap b f) h = first (fetch_left f h) _ (fetch_has f h)
free_has (free.Unmark b p) h = tt

pub take_has : (m : TakeBlock) (h : Hand) → HasOne (take_left m h)
take_has (take.Bitmap size f) h = first (fetch_left f h) _ (fetch_has f h)
take_has (take.Mark found p) h = tt
take_has (take.Block b f) h = first (fetch_left f h) _ (fetch_has f h)
take_has (take.Zero b p) h = tt
