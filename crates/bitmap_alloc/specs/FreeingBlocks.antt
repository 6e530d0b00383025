-- A block given back.
use Rattle.std.specs.Prelude.{IsSome}
use Rattle.bitmap_alloc.specs.Vocabulary.{MatchOption, bind, P, Hand, Place, buffer_at, block_at, bytes_at, fetch_left, fetch_asked, fetch_block, fetch_place, FetchReady}
use Rattle.bitmap_alloc.specs.Programs.{clear_bit}
use Rattle.fs_machine.specs.declared.op.Op.{Op}
use Rattle.fs_machine.specs.declared.op.Op.TheVariants as ops
use Rattle.bitmap_alloc.specs.declared.free_block.FreeBlock.{FreeBlock}
use Rattle.bitmap_alloc.specs.declared.free_block.FreeBlock.TheVariants.{Bitmap, Unmark}

abbrev pub free_left : FreeBlock → Hand → P (Unit {0})
free_left (Bitmap b f) h = bind (fetch_left f h) (clear_bit (fetch_block f) b)
free_left (Unmark b p) h = clear_bit (block_at p h) b (bytes_at p h)

abbrev pub free_asked : FreeBlock → Op
free_asked (Bitmap b f) = fetch_asked f
free_asked (Unmark b p) = ops.Record p

abbrev pub FreeReady : FreeBlock → Hand → Type 0
FreeReady (Bitmap b f) h = FetchReady f h × IsSome h.txn
FreeReady (Unmark b p) h = MatchOption (buffer_at p h) ⊥ (λ g. IsSome g.value.content) × IsSome h.txn

abbrev pub free_place : FreeBlock → Place
free_place (Bitmap b f) = fetch_place f
free_place (Unmark b p) = p
