-- The inode whose lock is at a seat, loaded if it isn't loaded.
use Rattle.std.specs.Prelude.{◌≡◌, Option, Some, None, IsSome}
use Rattle.inode_table.specs.Vocabulary.{Loaded, Ret, P, Hand, First, InodePlace, inode_at, inode_in, with_buffer, with_inode}
use Rattle.inode_table.specs.HeldInodes.{loaded_in, IsLoadedAt}
use Rattle.inode_table.specs.Loading.{load_left, load_place, LoadReady}
use Rattle.inode_table.specs.declared.locking_inodes.LoadInode.{LoadInode}

-- a loading that has begun, if there is one
abbrev pub begun_left : Option LoadInode → InodePlace → Hand → P Loaded
begun_left None k h = Ret (loaded_in k h)
begun_left (Some m) k h = load_left m h

-- it is loaded by way of the first place, and wasn't loaded before
abbrev pub IsLoading : InodePlace → LoadInode → Hand → Type 0
IsLoading k m h = LoadReady m h × (load_place m ≡ First) × IsSome (inode_at k h) × ((inode_in k h).content ≡ None)

abbrev pub HasBegun : InodePlace → Option LoadInode → Hand → Type 0
HasBegun k None h = IsLoadedAt k h
HasBegun k (Some m) h = IsLoading k m h

-- the same hand, except for the lock at a seat and a buffer
abbrev pub beside_lock : InodePlace → Hand → Hand
beside_lock k h = with_buffer First None (with_inode k None h)
