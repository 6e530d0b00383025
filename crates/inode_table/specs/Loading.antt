-- An inode loaded.
use Rattle.std.specs.Prelude.{None, IsSome}
use Rattle.inode_table.specs.Vocabulary.{Loaded, unindexed, Ret, Do, bind, unmarked, P, Hand, Place, Op, buffer_at, block_at, fetch_left, fetch_asked, fetch_block, fetch_place, FetchReady}
use Rattle.fs_machine.specs.Steps as steps
use Rattle.inode_table.specs.Programs.{give_back}
use Rattle.fs_machine.specs.declared.op.Op.TheVariants as ops
use Rattle.inode_table.specs.declared.locking_inodes.LoadInode.{LoadInode}
use Rattle.inode_table.specs.declared.locking_inodes.LoadInode.TheVariants.{Fetching, Give}

abbrev pub load_left : LoadInode → Hand → P Loaded
load_left (Fetching n f) h = bind (fetch_left f h) (give_back (fetch_block f) n)
load_left (Give d p) h = Do (steps.Put (block_at p h) None) unmarked (λ _. Ret (unindexed d))

abbrev pub load_asked : LoadInode → Op
load_asked (Fetching n f) = fetch_asked f
load_asked (Give d p) = ops.Give p

abbrev pub LoadReady : LoadInode → Hand → Type 0
LoadReady (Fetching n f) h = FetchReady f h
LoadReady (Give d p) h = IsSome (buffer_at p h)

abbrev pub load_place : LoadInode → Place
load_place (Fetching n f) = fetch_place f
load_place (Give d p) = p
