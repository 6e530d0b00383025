-- The inode at a seat freed.
use Rattle.std.specs.Prelude.{◌≡◌, ℕ, None, IsSome}
use Rattle.inode_data.specs.Vocabulary.{MatchOption, Dinode, Super, bind, P, store, HandState as Hand, First, Second, InodePlace, Op, inode_at, with_buffer, number_in, unloaded, record_left, record_asked, record_place, record_seat, RecordReady}
use Rattle.inode_data.specs.Freeing.{truncate, freed}
use Rattle.inode_data.specs.Emptying.{truncate_left, truncate_asked, emptying_of, TruncateReady, HasNoBuffer}
use Rattle.inode_data.specs.declared.free_inode.FreeInode.{FreeInode}
use Rattle.inode_data.specs.declared.free_inode.FreeInode.TheVariants.{Truncating, Storing}
use Rattle.inode_data.specs.declared.truncate.Emptying.{Emptying}

-- an inode without content is stored so that it may be taken again
abbrev pub store_free : Super → ℕ → Dinode → P (Unit {0})
store_free sizes n d = store sizes.inodestart n (freed d)

-- it is emptied before that
abbrev pub free_record : Super → ℕ → Dinode → P (Unit {0})
free_record sizes n d = bind (truncate sizes n d) (store_free sizes n)

abbrev pub freeing_left : FreeInode → Hand → P (Unit {0})
freeing_left (Truncating m) h = bind (truncate_left m h) (store_free (emptying_of m).sizes (number_in (emptying_of m).seat h))
freeing_left (Storing e m) h = record_left m h

abbrev pub freeing_asked : FreeInode → Op
freeing_asked (Truncating m) = truncate_asked m
freeing_asked (Storing e m) = record_asked m

abbrev pub freeing_of : FreeInode → Emptying
freeing_of (Truncating m) = emptying_of m
freeing_of (Storing e m) = e

abbrev pub FreeingReady : FreeInode → Hand → Type 0
FreeingReady (Truncating m) h = TruncateReady m h
FreeingReady (Storing e m) h = RecordReady m h × (record_place m ≡ First) × (record_seat m ≡ e.seat) × (h.second ≡ None)

-- nothing is loaded of the inode
abbrev pub IsUnloadedAt : InodePlace → Hand → Type 0
IsUnloadedAt k h = MatchOption (inode_at k h) ⊥ (λ g. g.value.content ≡ None)

abbrev pub HasFreed : Emptying → Hand → Type 0
HasFreed e h = IsUnloadedAt e.seat h × HasNoBuffer h × IsSome h.txn

-- the same hand, except for the buffers and what is loaded
abbrev pub beside_freeing : Emptying → Hand → Hand
beside_freeing e h = with_buffer First None (with_buffer Second None (unloaded e.seat h))
