-- The content of the inode at a seat emptied.
use Rattle.std.specs.Prelude.{◌≡◌, ℕ, ◌+◌, ◌<◌, drop, take, Option, None, IsSome}
use Rattle.inode_data.specs.Vocabulary.{MatchOption, Dinode, numbers_in, numbers_per_block, GuardState, BufferState, Inode, record_of, Ret, bind, P, HandState as Hand, First, Second, Op, buffer_at, block_at, inode_in, with_buffer, fetch_left, fetch_asked, fetch_block, fetch_place, FetchReady, block_in, bytes_in, free_left, free_asked, free_place, FreeReady, record_in, with_record, IsLoadedAt, HasBlock, record_left, record_asked, record_place, record_seat, RecordReady, FreeBlock}
use Rattle.inode_table.specs.Programs.{no_record}
use Rattle.inode_data.specs.Widths.{direct}
use Rattle.inode_data.specs.Addresses.{table_of}
use Rattle.inode_data.specs.Freeing.{free_numbers, free_table, free_in_table, free_indirect, without_content, store_record}
use Rattle.fs_machine.specs.declared.op.Op.TheVariants as ops
use Rattle.inode_data.specs.declared.truncate.Emptying.{Emptying}
use Rattle.inode_data.specs.declared.truncate.Truncate.{Truncate}
use Rattle.inode_data.specs.declared.truncate.Truncate.TheVariants.{Own, Indirect, Listed, GiveBack, Table, Record}

-- what comes last, for this inode: the record is stored
abbrev pub record_rest : Emptying → Inode → P Dinode
record_rest e v = store_record e.sizes v.number (without_content (record_of v))

-- the indirect block with the blocks that it names, and the rest
abbrev pub indirect_rest : Emptying → Inode → P Dinode
indirect_rest e v = free_indirect e.sizes.bmapstart (table_of (record_of v)) (record_rest e v)

-- the inode's own numbers from this place on, and the rest
abbrev pub own_rest : Emptying → ℕ → Inode → P Dinode
own_rest e from v = free_numbers e.sizes.bmapstart (drop from (take direct (record_of v).addrs)) (indirect_rest e v)

-- those in the indirect block from this place on, and the rest
abbrev pub listed_rest : Emptying → ℕ → Inode → Option (GuardState BufferState) → P Dinode
listed_rest e from v table = free_numbers e.sizes.bmapstart (drop from (numbers_in (bytes_in table)))
    (free_table e.sizes.bmapstart (block_in table) (record_rest e v))

abbrev pub truncate_left : Truncate → Hand → P Dinode
truncate_left (Own e i m) h = bind (free_left m h) (λ _. own_rest e (i + 1) (inode_in e.seat h))
truncate_left (Indirect e f) h = bind (fetch_left f h) (free_in_table e.sizes.bmapstart (fetch_block f) (record_rest e (inode_in e.seat h)))
truncate_left (Listed e i m) h = bind (free_left m h) (λ _. listed_rest e (i + 1) (inode_in e.seat h) h.second)
truncate_left (GiveBack e b) h = free_table e.sizes.bmapstart b (record_rest e (inode_in e.seat h))
truncate_left (Table e m) h = bind (free_left m h) (λ _. record_rest e (inode_in e.seat h))
truncate_left (Record e m) h = bind (record_left m h) (λ _. Ret (record_in e.seat h))

abbrev pub truncate_asked : Truncate → Op
truncate_asked (Own e i m) = free_asked m
truncate_asked (Indirect e f) = fetch_asked f
truncate_asked (Listed e i m) = free_asked m
truncate_asked (GiveBack e b) = ops.Give Second
truncate_asked (Table e m) = free_asked m
truncate_asked (Record e m) = record_asked m

abbrev pub emptying_of : Truncate → Emptying
emptying_of (Own e i m) = e
emptying_of (Indirect e f) = e
emptying_of (Listed e i m) = e
emptying_of (GiveBack e b) = e
emptying_of (Table e m) = e
emptying_of (Record e m) = e

-- the inode is loaded, the number of its block is a u32, and there is a transaction
abbrev pub IsEmptying : Emptying → Hand → Type 0
IsEmptying e h = IsLoadedAt e.seat h × HasBlock e.sizes.inodestart e.seat h × IsSome h.txn

-- a block is given back by way of the first place
abbrev pub Frees : FreeBlock → Hand → Type 0
Frees m h = FreeReady m h × (free_place m ≡ First)

-- the indirect block is at the second place
abbrev pub HasTable : Hand → Type 0
HasTable h = MatchOption (buffer_at Second h) ⊥ (λ g. IsSome g.value.content)

abbrev pub StageReady : Truncate → Hand → Type 0
StageReady (Own e i m) h = Frees m h × (i < direct) × (h.second ≡ None)
StageReady (Indirect e f) h = FetchReady f h × (fetch_place f ≡ Second) × (h.first ≡ None)
StageReady (Listed e i m) h = Frees m h × (i < numbers_per_block) × HasTable h
StageReady (GiveBack e b) h = HasTable h × (block_at Second h ≡ b) × (h.first ≡ None)
StageReady (Table e m) h = Frees m h × (h.second ≡ None)
StageReady (Record e m) h = RecordReady m h × (record_place m ≡ First) × (record_seat m ≡ e.seat) × (h.second ≡ None)

abbrev pub TruncateReady : Truncate → Hand → Type 0
TruncateReady m h = StageReady m h × IsEmptying (emptying_of m) h

-- no buffer is in hand
abbrev pub HasNoBuffer : Hand → Type 0
HasNoBuffer h = (h.first ≡ None) × (h.second ≡ None)

-- the same hand, except for the buffers and the record: the index stays
abbrev pub beside_emptying : Emptying → Hand → Hand
beside_emptying e h = with_buffer First None (with_buffer Second None (with_record e.seat no_record h))
