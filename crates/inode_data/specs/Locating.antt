-- A block of a content, taken if it is missing.
use Rattle.std.specs.Prelude.{◌≡◌, ◌<◌, ◌≤◌, ℕ, Option, Some, None, IsSome}
use Rattle.inode_data.specs.Vocabulary.{MatchOption, Dinode, bits_per_block, numbers_per_block, Do, bind, unmarked, P, HandState as Hand, First, Second, Op, buffer_at, block_at, bytes_at, with_buffer, fetch_left, fetch_asked, fetch_block, fetch_place, FetchReady, marks, take_left, take_asked, take_place, TakeReady, TakeBlock}
use Rattle.fs_machine.specs.Steps as steps
use Rattle.inode_data.specs.Widths.{direct}
use Rattle.inode_data.specs.Writing.{located, with_address, name_direct, name_in_table, look_up, with_table}
use Rattle.inode_data.specs.declared.locate.Located.{Located}
use Rattle.fs_machine.specs.declared.op.Op.TheVariants as ops
use Rattle.inode_data.specs.declared.locate.Locate.{Locate}
use Rattle.inode_data.specs.declared.locate.Stage.{Stage}
use Rattle.inode_data.specs.declared.locate.Stage.TheVariants.{Direct, NewTable, Table, NewEntry, Name, Give}

abbrev pub stage_left : Locate → Stage → Hand → P Located
stage_left l (Direct i m) h = bind (take_left m h) (name_direct i l.inode)
stage_left l (NewTable i m) h = bind (take_left m h) (with_table l.sizes i l.inode)
stage_left l (Table i f) h = bind (fetch_left f h) (look_up l.sizes i l.inode (fetch_block f))
stage_left l (NewEntry i m) h = bind (take_left m h) (name_in_table i l.inode (block_at Second h) (bytes_at Second h))
stage_left l (Name i number) h = name_in_table i l.inode (block_at Second h) (bytes_at Second h) number
stage_left l (Give number) h = Do (steps.Put (block_at Second h) None) unmarked (λ _. located l.inode (Some number))

abbrev pub locate_left : Locate → Hand → P Located
locate_left l h = stage_left l l.stage h

abbrev pub stage_asked : Stage → Op
stage_asked (Direct i m) = take_asked m
stage_asked (NewTable i m) = take_asked m
stage_asked (Table i f) = fetch_asked f
stage_asked (NewEntry i m) = take_asked m
stage_asked (Name i number) = marks number Second
stage_asked (Give number) = ops.Give Second

abbrev pub locate_asked : Locate → Op
locate_asked l = stage_asked l.stage

-- a block is taken by way of the first place
abbrev pub TakesByFirst : TakeBlock → Hand → Type 0
TakesByFirst m h = TakeReady m h × (take_place m ≡ First)

abbrev pub HasTable : Hand → Type 0
HasTable h = MatchOption (buffer_at Second h) ⊥ (λ g. IsSome g.value.content)

abbrev pub StageReady : Stage → Hand → Type 0
StageReady (Direct i m) h = TakesByFirst m h × (i < direct) × (h.second ≡ None)
StageReady (NewTable i m) h = TakesByFirst m h × (i < numbers_per_block) × (h.second ≡ None)
StageReady (Table i f) h = FetchReady f h × (fetch_place f ≡ Second) × (i < numbers_per_block) × (h.first ≡ None) × IsSome h.txn
StageReady (NewEntry i m) h = TakesByFirst m h × (i < numbers_per_block) × HasTable h
StageReady (Name i number) h = HasTable h × (i < numbers_per_block) × (h.first ≡ None) × IsSome h.txn
StageReady (Give number) h = HasTable h × (h.first ≡ None) × IsSome h.txn

abbrev pub LocateReady : Locate → Hand → Type 0
LocateReady l h = StageReady l.stage h × (l.sizes.size ≤ bits_per_block)

-- nothing but the buffers changes in hand
abbrev pub Leaves : Hand → Hand → Type 0
Leaves before h = with_buffer First None (with_buffer Second None h) ≡ with_buffer First None (with_buffer Second None before)

abbrev pub named_direct : ℕ → Dinode → Option ℕ → Located
named_direct i d None = record { inode = d; number = None }
named_direct i d (Some b) = record { inode = with_address i b d; number = Some b }
