-- An inode stored.
use Rattle.std.specs.Prelude.{IsSome}
use Rattle.inode_table.specs.Vocabulary.{MatchOption, bind, P, Hand, Place, Op, buffer_at, block_at, bytes_at, fetch_left, fetch_asked, FetchReady, fetch_block, fetch_place}
use Rattle.inode_table.specs.Programs.{put_inode}
use Rattle.fs_machine.specs.declared.op.Op.TheVariants as ops
use Rattle.inode_table.specs.declared.storing_inodes.StoreInode.{StoreInode}
use Rattle.inode_table.specs.declared.storing_inodes.StoreInode.TheVariants.{Fetching, Write}

abbrev pub store_left : StoreInode → Hand → P (Unit {0})
store_left (Fetching n d f) h = bind (fetch_left f h) (put_inode (fetch_block f) n d)
store_left (Write n d p) h = put_inode (block_at p h) n d (bytes_at p h)

abbrev pub store_asked : StoreInode → Op
store_asked (Fetching n d f) = fetch_asked f
store_asked (Write n d p) = ops.Record p

abbrev pub StoreReady : StoreInode → Hand → Type 0
StoreReady (Fetching n d f) h = FetchReady f h × IsSome h.txn
StoreReady (Write n d p) h = MatchOption (buffer_at p h) ⊥ (λ g. IsSome g.value.content) × IsSome h.txn

abbrev pub store_place : StoreInode → Place
store_place (Fetching n d f) = fetch_place f
store_place (Write n d p) = p
