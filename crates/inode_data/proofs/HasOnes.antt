-- Each part has an operation to make.
use Rattle.inode_data.proofs.Vocabulary.{ℕ, Option, Some, None, List, Dinode, name_in_table, Located, HasOne, first, fetch_has, Hand, truncate_left, fetch_left, block_left, free_left, freeing_left, locate_left, stage_left, store_left, record_left, take_left, FetchBlock, FreeInode, Locate, Stage, Truncate, read_left, write_left, ReadPart, WritePart, free_has, take_has, store_has, record_has}
use Rattle.inode_data.specs.declared.fetch_block.FetchBlock.TheVariants as block
use Rattle.inode_data.specs.declared.free_inode.FreeInode.TheVariants as freeing
use Rattle.inode_data.specs.declared.locate.Stage.TheVariants as stage
use Rattle.inode_data.specs.declared.truncate.Truncate.TheVariants as truncate
use Rattle.inode_data.specs.declared.read_part.ReadPart.TheVariants as read
use Rattle.inode_data.specs.declared.write_part.WritePart.TheVariants as write

pub block_has : (m : FetchBlock) (h : Hand) → HasOne (block_left m h)
block_has (block.Table i f) h = first (fetch_left f h) _ (fetch_has f h)
block_has (block.Number b p) h = tt
block_has (block.Block f) h = first (fetch_left f h) _ (fetch_has f h)

name_has : (i : ℕ) (d : Dinode) (table : ℕ) (bytes : List ℕ) (number : Option ℕ) → HasOne {A = Located} (name_in_table i d table bytes number)
name_has i d table bytes None = tt
name_has i d table bytes (Some b) = tt

stage_has : (l : Locate) (m : Stage) (h : Hand) → HasOne (stage_left l m h)
stage_has l (stage.Direct i m) h = first (take_left m h) _ (take_has m h)
stage_has l (stage.NewTable i m) h = first (take_left m h) _ (take_has m h)
stage_has l (stage.Table i f) h = first (fetch_left f h) _ (fetch_has f h)
stage_has l (stage.NewEntry i m) h = first (take_left m h) _ (take_has m h)
stage_has l (stage.Name i number) h = name_has i l.inode _ _ number
stage_has l (stage.Give number) h = tt

pub locate_has : (m : Locate) (h : Hand) → HasOne (locate_left m h)
locate_has m h = stage_has m m.stage h

pub truncate_has : (m : Truncate) (h : Hand) → HasOne (truncate_left m h)
truncate_has (truncate.Own e i m) h = first (free_left m h) _ (free_has m h)
truncate_has (truncate.Indirect e f) h = first (fetch_left f h) _ (fetch_has f h)
truncate_has (truncate.Listed e i m) h = first (free_left m h) _ (free_has m h)
truncate_has (truncate.GiveBack e b) h = tt
truncate_has (truncate.Table e m) h = first (free_left m h) _ (free_has m h)
truncate_has (truncate.Record e m) h = first (record_left m h) _ (record_has m h)

pub freeing_has : (m : FreeInode) (h : Hand) → HasOne (freeing_left m h)
freeing_has (freeing.Truncating m) h = first (truncate_left m h) _ (truncate_has m h)
freeing_has (freeing.Storing e m) h = record_has m h

pub read_has : (d : Dinode) (bytes : List ℕ) (m : ReadPart) (h : Hand) → HasOne (read_left d bytes m h)
read_has d bytes (read.Fetching r m) h = first (block_left m h) _ (block_has m h)
read_has d bytes (read.Giving r) h = tt

pub write_has : (bytes : List ℕ) (m : WritePart) (h : Hand) → HasOne (write_left bytes m h)
write_has bytes (write.Locating w m) h = first (locate_left m h) _ (locate_has m h)
write_has bytes (write.Fetching w d f) h = first (fetch_left f h) _ (fetch_has f h)
write_has bytes (write.There w d) h = tt
write_has bytes (write.Storing r m) h = first (store_left m h) _ (store_has m h)
