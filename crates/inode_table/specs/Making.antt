-- A new inode.
use Rattle.std.specs.Prelude.{◌≡◌, ◌<◌, ◌≤◌, ◌+◌, ◌^◌, ℕ, [], take, Option, Some, None, IsSome}
use Rattle.inode_table.specs.Vocabulary.{MatchOption, inodes_per_block, bind, Claims, NoPlace, P, Hand, First, InodePlace, Op, block_at, bytes_at, reference_at, with_buffer, with_reference, fetch_left, fetch_asked, fetch_block, fetch_place, FetchReady}
use Rattle.inode_table.specs.NewInodes.{free_in, look_in, make_in, new_from}
use Rattle.inode_table.specs.declared.new_inode.Looking.{Looking}
use Rattle.inode_table.specs.declared.new_inode.Made.{Made}
use Rattle.inode_table.specs.declared.new_inode.Made.TheVariants as made
use Rattle.fs_machine.specs.declared.op.Op.TheVariants as ops
use Rattle.inode_table.specs.declared.new_inode.NewInode.{NewInode}
use Rattle.inode_table.specs.declared.new_inode.NewInode.TheVariants.{Fetching, Look, Record, GiveBack}

-- the blocks after the one that is looked at
abbrev pub rest_of : Looking → P Made
rest_of l = new_from l.left l.kind l.sizes (l.before + 1)

-- the numbers of the blocks to come fit
abbrev pub IsLooking : Looking → Type 0
IsLooking l = l.sizes.inodestart + (l.before + l.left) < 2 ^ 32

abbrev pub new_left : NewInode → Hand → P Made
new_left (Fetching k l f) h = bind (fetch_left f h) (look_in (rest_of l) l.kind l.sizes.ninodes l.before (fetch_block f))
new_left (Look k l) h = look_in (rest_of l) l.kind l.sizes.ninodes l.before (block_at First h) (bytes_at First h)
new_left (Record k l n) h = make_in (rest_of l) l.kind (block_at First h) (bytes_at First h) (Claims n)
new_left (GiveBack k l) h = make_in (rest_of l) l.kind (block_at First h) (bytes_at First h) NoPlace

abbrev pub new_value : Made → Hand → Made
new_value m h = m

abbrev pub new_asked : NewInode → Op
new_asked (Fetching k l f) = fetch_asked f
new_asked (Look k l) = ops.Claim First k
new_asked (Record k l n) = ops.Record First
new_asked (GiveBack k l) = ops.Give First

abbrev pub new_seat : NewInode → InodePlace
new_seat (Fetching k l f) = k
new_seat (Look k l) = k
new_seat (Record k l n) = k
new_seat (GiveBack k l) = k

abbrev pub looking_of : NewInode → Looking
looking_of (Fetching k l f) = l
looking_of (Look k l) = l
looking_of (Record k l n) = l
looking_of (GiveBack k l) = l

-- the block is at the first place
abbrev pub HasInodes : Hand → Type 0
HasInodes h = MatchOption h.first ⊥ (λ g. IsSome g.value.content)

-- and the numbers of its free inodes are in hand
abbrev pub HasFree : Looking → Hand → Type 0
HasFree l h = (h.count ≤ inodes_per_block) × (take h.count h.numbers ≡ free_in l.sizes.ninodes l.before (bytes_at First h))

abbrev pub StageReady : NewInode → Hand → Type 0
StageReady (Fetching k l f) h = FetchReady f h × (fetch_place f ≡ First) × (reference_at k h ≡ None)
StageReady (Look k l) h = HasInodes h × HasFree l h × (reference_at k h ≡ None)
StageReady (Record k l n) h = HasInodes h × (reference_at k h ≡ Some n)
StageReady (GiveBack k l) h = HasInodes h × (reference_at k h ≡ None)

abbrev pub NewReady : NewInode → Hand → Type 0
NewReady m h = StageReady m h × IsLooking (looking_of m) × (h.second ≡ None) × IsSome h.txn

-- the reference to what was claimed is in hand
abbrev pub claimed_of : Made → Option ℕ
claimed_of (made.Inode n) = Some n
claimed_of made.NoPlace = None
claimed_of made.NoInode = None

abbrev pub NewEnds : NewInode → Made → Hand → Type 0
NewEnds m out h = (reference_at (new_seat m) h ≡ claimed_of out) × (h.first ≡ None) × (h.second ≡ None)

-- the same hand, except for the reference at a seat, a buffer and numbers
abbrev pub beside_new : InodePlace → Hand → Hand
beside_new k h = with_buffer First None (with_reference k None (record h { numbers = []; count = 0 }))
