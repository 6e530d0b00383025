-- Each part has an operation to make.
use Rattle.inode_table.proofs.Vocabulary.{HasOne, first, fetch_has, Hand, fetch_left, load_left, lock_left, new_left, store_left, record_left, LoadInode, LockInode, NewInode, StoreInode, StoreRecord}
use Rattle.inode_table.specs.declared.locking_inodes.LoadInode.TheVariants as load
use Rattle.inode_table.specs.declared.locking_inodes.LockInode.TheVariants as lock
use Rattle.inode_table.specs.declared.new_inode.NewInode.TheVariants as new
use Rattle.inode_table.specs.declared.storing_inodes.StoreInode.TheVariants as store
use Rattle.inode_table.specs.declared.storing_inodes.StoreRecord.TheVariants as stored

pub load_has : (m : LoadInode) (h : Hand) → HasOne (load_left m h)
load_has (load.Fetching n f) h = first (fetch_left f h) _ (fetch_has f h)
load_has (load.Give d p) h = tt

pub store_has : (m : StoreInode) (h : Hand) → HasOne (store_left m h)
store_has (store.Fetching n d f) h = first (fetch_left f h) _ (fetch_has f h)
store_has (store.Write n d p) h = tt

pub record_has : (m : StoreRecord) (h : Hand) → HasOne (record_left m h)
record_has (stored.Fetching k f) h = first (fetch_left f h) _ (fetch_has f h)
record_has (stored.Write k p) h = tt

pub new_has : (m : NewInode) (h : Hand) → HasOne (new_left m h)
new_has (new.Fetching k l f) h = first (fetch_left f h) _ (fetch_has f h)
new_has (new.Look k l) h = tt
new_has (new.Record k l n) h = tt
new_has (new.GiveBack k l) h = tt

pub lock_has : (m : LockInode) (h : Hand) → HasOne (lock_left m h)
lock_has (lock.Lock k i) h = tt
lock_has (lock.Loading k m) h = load_has m h
