-- A block of a content taken.
use Rattle.std.specs.Prelude.{◌<◌, None, IsSome}
use Rattle.inode_data.specs.Vocabulary.{numbers_per_block, Do, bind, unmarked, P, HandState as Hand, Place, Op, buffer_at, block_at, bytes_at, fetch_left, fetch_asked, fetch_block, fetch_place, FetchReady, Fetched}
use Rattle.fs_machine.specs.Steps as steps
use Rattle.inode_data.specs.Programs.{FetchedBlock, give_fetched, fetch_named, fetch_number}
use Rattle.fs_machine.specs.declared.op.Op.TheVariants as ops
use Rattle.inode_data.specs.declared.fetch_block.FetchBlock.{FetchBlock}
use Rattle.inode_data.specs.declared.fetch_block.FetchBlock.TheVariants.{Table, Number, Block}

abbrev pub block_left : FetchBlock → Hand → P FetchedBlock
block_left (Table i f) h = bind (fetch_left f h) (fetch_named (fetch_block f) i)
block_left (Number b p) h = Do (steps.Put (block_at p h) None) unmarked (λ _. fetch_number b)
block_left (Block f) h = bind (fetch_left f h) (give_fetched (fetch_block f))

abbrev pub block_asked : FetchBlock → Op
block_asked (Table i f) = fetch_asked f
block_asked (Number b p) = ops.Give p
block_asked (Block f) = fetch_asked f

abbrev pub BlockReady : FetchBlock → Hand → Type 0
BlockReady (Table i f) h = FetchReady f h × (i < numbers_per_block)
BlockReady (Number b p) h = IsSome (buffer_at p h)
BlockReady (Block f) h = FetchReady f h

abbrev pub fetched_block : Fetched → Hand → FetchedBlock
fetched_block f h = record { number = block_at f.place h; bytes = bytes_at f.place h }

abbrev pub block_place : FetchBlock → Place
block_place (Table i f) = fetch_place f
block_place (Number b p) = p
block_place (Block f) = fetch_place f
