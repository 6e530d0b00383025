-- The inode at a seat stored.
use Rattle.std.specs.Prelude.{IsSome}
use Rattle.inode_table.specs.Vocabulary.{MatchOption, bind, P, Hand, Place, InodePlace, Op, buffer_at, block_at, bytes_at, fetch_left, fetch_asked, fetch_block, fetch_place, FetchReady}
use Rattle.inode_table.specs.Programs.{put_inode}
use Rattle.fs_machine.specs.declared.op.Op.TheVariants as ops
use Rattle.inode_table.specs.HeldInodes.{number_in, record_in, IsLoadedAt}
use Rattle.inode_table.specs.declared.storing_inodes.StoreRecord.{StoreRecord}
use Rattle.inode_table.specs.declared.storing_inodes.StoreRecord.TheVariants.{Fetching, Write}

abbrev pub record_left : StoreRecord → Hand → P (Unit {0})
record_left (Fetching k f) h = bind (fetch_left f h) (put_inode (fetch_block f) (number_in k h) (record_in k h))
record_left (Write k p) h = put_inode (block_at p h) (number_in k h) (record_in k h) (bytes_at p h)

abbrev pub record_asked : StoreRecord → Op
record_asked (Fetching k f) = fetch_asked f
record_asked (Write k p) = ops.Record p

abbrev pub RecordReady : StoreRecord → Hand → Type 0
RecordReady (Fetching k f) h = FetchReady f h × IsSome h.txn × IsLoadedAt k h
RecordReady (Write k p) h = MatchOption (buffer_at p h) ⊥ (λ g. IsSome g.value.content) × IsSome h.txn × IsLoadedAt k h

abbrev pub record_place : StoreRecord → Place
record_place (Fetching k f) = fetch_place f
record_place (Write k p) = p

abbrev pub record_seat : StoreRecord → InodePlace
record_seat (Fetching k f) = k
record_seat (Write k p) = k
