-- A name's slot cleared.
use Rattle.std.specs.Prelude.{◌≡◌, ◌<◌, ◌^◌, None, IsSome}
use Rattle.directory.specs.Vocabulary.{Dinode, Free, bind, P, inode_block, FetchedBlock, Hand, First, Op, block_left, block_asked, store_left, store_asked, store_place, StoreReady, block_in, FetchesFirst, HasBlock}
use Rattle.directory.specs.Programs.{give_record, most_slots, put_dirent}
use Rattle.fs_machine.specs.declared.op.Op.TheVariants as ops
use Rattle.directory.specs.declared.clear.Clear.{Clear}
use Rattle.directory.specs.declared.clear.Clear.TheVariants.{Fetching, Write, Storing}
use Rattle.directory.specs.declared.clear.Slot.{Slot}

-- the slot's block is there
abbrev pub put_free : Slot → FetchedBlock → P Dinode
put_free s f = put_dirent s.version s.inodestart s.number s.inode s.slot Free f

abbrev pub clear_left : Clear → Hand → P Dinode
clear_left (Fetching s m) h = bind (block_left m h) (put_free s)
clear_left (Write s) h = put_free s (block_in h)
clear_left (Storing d m) h = bind (store_left m h) (give_record d)

abbrev pub clear_asked : Clear → Op
clear_asked (Fetching s m) = block_asked m
clear_asked (Write s) = ops.Record First
clear_asked (Storing d m) = store_asked m

-- the slot is one that a directory may have, and the inode's block has a number
abbrev pub IsSlotOf : Slot → Type 0
IsSlotOf s = (s.slot < most_slots s.version) × (inode_block s.inodestart s.number < 2 ^ 32)

abbrev pub ClearReady : Clear → Hand → Type 0
ClearReady (Fetching s m) h = IsSlotOf s × FetchesFirst m h × IsSome h.txn
ClearReady (Write s) h = IsSlotOf s × HasBlock h × IsSome h.txn
ClearReady (Storing d m) h = StoreReady m h × (store_place m ≡ First) × (h.second ≡ None)
