-- A block taken.
use Rattle.std.specs.Prelude.{◌≡◌, ◌<◌, ◌≤◌, ℕ, Option, Some, None, IsSome, IfSome}
use Rattle.bitmap_alloc.specs.Vocabulary.{MatchOption, bits_per_block, Do, bind, unmarked, P, Hand, Place, buffer_at, block_at, bytes_at, fetch_left, fetch_asked, fetch_block, fetch_place, FetchReady}
use Rattle.fs_machine.specs.Steps as steps
use Rattle.bitmap_alloc.specs.Bytes.{marked_by}
use Rattle.bitmap_alloc.specs.Programs.{give_zeros, take_first, zero_found}
use Rattle.fs_machine.specs.declared.op.Op.{Op}
use Rattle.fs_machine.specs.declared.op.Op.TheVariants as ops
use Rattle.bitmap_alloc.specs.declared.take_block.TakeBlock.{TakeBlock}
use Rattle.bitmap_alloc.specs.declared.take_block.TakeBlock.TheVariants.{Bitmap, Mark, Block, Zero}

abbrev pub take_left : TakeBlock → Hand → P (Option ℕ)
take_left (Bitmap size f) h = bind (fetch_left f h) (take_first (fetch_block f) size)
take_left (Mark found p) h = Do (steps.Put (block_at p h) (marked_by (bytes_at p h) found)) unmarked (λ _. zero_found found)
take_left (Block b f) h = bind (fetch_left f h) (give_zeros b)
take_left (Zero b p) h = give_zeros b (bytes_at p h)

abbrev pub marks : Option ℕ → Place → Op
marks None p = ops.Give p
marks (Some b) p = ops.Record p

abbrev pub take_asked : TakeBlock → Op
take_asked (Bitmap size f) = fetch_asked f
take_asked (Mark found p) = marks found p
take_asked (Block b f) = fetch_asked f
take_asked (Zero b p) = ops.Record p

abbrev pub TakeReady : TakeBlock → Hand → Type 0
TakeReady (Bitmap size f) h = FetchReady f h × (size ≤ bits_per_block) × IsSome h.txn
TakeReady (Mark found p) h =
    MatchOption (buffer_at p h) ⊥ (λ g. IsSome g.value.content) × IfSome found (λ b. b < bits_per_block) × IsSome h.txn
TakeReady (Block b f) h = FetchReady f h × (fetch_block f ≡ b) × IsSome h.txn
TakeReady (Zero b p) h = MatchOption (buffer_at p h) ⊥ (λ g. IsSome g.value.content × (g.value.block ≡ b)) × IsSome h.txn

abbrev pub take_place : TakeBlock → Place
take_place (Bitmap size f) = fetch_place f
take_place (Mark found p) = p
take_place (Block b f) = fetch_place f
take_place (Zero b p) = p
