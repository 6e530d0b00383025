-- What the operations of code represent, what each asks of the hand and leaves of it, and its answer.
use Rattle.std.specs.Prelude.{◌≡◌, ◌≢◌, ◌<◌, ◌≤◌, ◌∷◌, ◌++◌, [], length, take, ◌^◌, ℕ, pos, List, Bool, true, false, Option, Some, None, IsSome, IfSome}
use Rattle.fs_machine.specs.Vocabulary.{MatchOption, option_map_or, GuardState, BufferState, AfterLeave, Free, Commits}
use Rattle.fs_machine.specs.Limits.{descriptor_count, listed_places}
use Rattle.fs_machine.specs.InMemory.{Inode}
use Rattle.fs_machine.specs.declared.files.Refused.TheVariants as refused
use Rattle.fs_machine.specs.declared.slots.Doubled.TheVariants as doubled
use Rattle.fs_machine.specs.declared.slots.Shut.TheVariants as shut
use Rattle.fs_machine.specs.declared.slots.Given.TheVariants as given
use Rattle.fs_machine.specs.Inodes.{LockedState, Refuses, Locks, Counts, Keeps, Dies, DroppedState}
use Rattle.fs_machine.specs.declared.files.OpenFile.{OpenFile}
use Rattle.fs_machine.specs.declared.files.Refused.{Refused as RefusedState}
use Rattle.fs_machine.specs.declared.slots.Doubled.{Doubled as DoubledState}
use Rattle.fs_machine.specs.declared.slots.Shut.{Shut as ShutState}
use Rattle.fs_machine.specs.declared.slots.Given.{Given as GivenState}
use Rattle.fs_machine.specs.Steps as steps
use Rattle.fs_machine.specs.declared.hand.Hand.{Hand}
use Rattle.fs_machine.specs.declared.hand.Place.{Place}
use Rattle.fs_machine.specs.declared.hand.Place.TheVariants.{First}
use Rattle.fs_machine.specs.declared.hand.InodePlace.{InodePlace}
use Rattle.fs_machine.specs.declared.hand.InodePlace.TheVariants.{One}
use Rattle.fs_machine.specs.declared.op.Op.{Op}
use Rattle.fs_machine.specs.declared.op.Op.TheVariants.{Join, JoinToWrite, Leave, Commit, Get, Read, Give, Record, Lock, LockFile, LockOpen, Unlock, UnlockMoving, SetDirectory, Up, UpAside, UpDirectory, Down, DownWalked, LockListed, DownFreed, CheckFile, TakePlace, TakeDescriptor, Double, Close, GiveTo, Claim, Reply}
use Rattle.fs_machine.specs.declared.op.Answer.{Answer}
use Rattle.fs_machine.specs.declared.op.Answer.TheVariants.{Nothing, Is, Refused, Number, File, Doubled, Given}
use Rattle.fs_machine.specs.Hands.{buffer_at, with_buffer, inode_at, with_inode, reference_at, with_first, with_aside, with_listed, with_reference, with_seated, with_txn, first_listed, block_at, bytes_at, inode_in, number_at, with_bytes}

-- the operation, by what is in hand
abbrev pub op_in : Hand → Op → steps.Op
op_in h Join = steps.Join
op_in h Leave = steps.Leave
op_in h Commit = steps.Commit
op_in h (Get p b) = steps.Get b
op_in h (Read p) = steps.Read (block_at p h)
op_in h (Give p) = steps.Put (block_at p h) None
op_in h (Record p) = steps.Put (block_at p h) (Some (bytes_at p h))
op_in h (Lock k) = steps.Lock (number_at k h)
op_in h (Unlock k) = steps.Unlock (inode_in k h) None
op_in h (Up k n) = steps.Up (steps.Number n)
op_in h (UpAside n) = steps.Up (steps.Number n)
op_in h (Down k) = steps.Down (steps.Held (number_at k h))
op_in h (JoinToWrite fd) = steps.JoinToWrite fd
op_in h (LockFile k w fd) = steps.LockFile w fd
op_in h (LockOpen k fd) = steps.LockOpen fd
op_in h (UnlockMoving k fd offset) = steps.Unlock (inode_in k h) (Some (fd, offset))
op_in h (SetDirectory k) = steps.SetDirectory (inode_in k h)
op_in h (UpDirectory k) = steps.Up steps.Directory
op_in h (DownWalked k) = steps.Down (steps.Walked (number_at k h))
op_in h (LockListed k) = steps.Lock (first_listed h)
op_in h (DownFreed k) = steps.Down (steps.Freed (number_at k h))
op_in h (CheckFile w fd) = steps.CheckFile w fd
op_in h TakePlace = steps.TakePlace
op_in h (TakeDescriptor k file) = steps.TakeDescriptor (number_at k h) file
op_in h (Double fd) = steps.Double fd
op_in h (Close k fd) = steps.Close fd
op_in h (GiveTo k child from) = steps.GiveDescriptor child from
op_in h (Claim p k) = steps.Claim (block_at p h) (take h.count h.numbers)
op_in h Reply = steps.Reply

-- what it asks of the hand
abbrev pub CanDo : Op → Hand → Type 0
CanDo Join h = h.txn ≡ None
CanDo Leave h = IsSome h.txn
CanDo Commit h = Unit {0}
CanDo (Get p b) h = buffer_at p h ≡ None
CanDo (Read p) h = MatchOption (buffer_at p h) ⊥ (λ g. g.value.content ≡ None)
CanDo (Give p) h = IsSome (buffer_at p h)
CanDo (Record p) h = IsSome h.txn × MatchOption (buffer_at p h) ⊥ (λ g. IsSome g.value.content)
CanDo (Lock k) h = IsSome (reference_at k h) × (inode_at k h ≡ None)
CanDo (Unlock k) h = IsSome (inode_at k h)
CanDo (Up k n) h = reference_at k h ≡ None
CanDo (UpAside n) h = h.aside ≡ None
CanDo (Down k) h = IsSome (reference_at k h) × (inode_at k h ≡ None)
CanDo (JoinToWrite fd) h = h.txn ≡ None
CanDo (LockFile k w fd) h = inode_at k h ≡ None
CanDo (LockOpen k fd) h = inode_at k h ≡ None
CanDo (UnlockMoving k fd offset) h = IsSome (inode_at k h)
CanDo (SetDirectory k) h = MatchOption (inode_at k h) ⊥ (λ g. reference_at k h ≡ Some g.value.number)
CanDo (UpDirectory k) h = reference_at k h ≡ None
CanDo (DownWalked k) h = IsSome (reference_at k h) × (length h.listed < listed_places)
CanDo (LockListed k) h = (h.listed ≢ []) × (reference_at k h ≡ None) × (inode_at k h ≡ None)
CanDo (DownFreed k) h = IsSome (reference_at k h)
CanDo (CheckFile w fd) h = Unit {0}
CanDo TakePlace h = Unit {0}
CanDo (TakeDescriptor k file) h = IsSome (reference_at k h)
CanDo (Double fd) h = Unit {0}
CanDo (Close k fd) h = reference_at k h ≡ None
CanDo (GiveTo k child from) h = reference_at k h ≡ None
CanDo (Claim p k) h = IsSome (buffer_at p h) × ((q : Place) → q ≢ p → buffer_at q h ≡ None) × (reference_at k h ≡ None) × (h.count ≤ 16)
CanDo Reply h = Unit {0}

-- what its control has done in hand right before: bytes to be recorded are in the buffer
abbrev pub Prepared : Op → Hand → Hand → Type 0
Prepared (Record p) before h =
    MatchOption (buffer_at p before) ⊥ (λ g. IsSome g.value.content) × ((bytes : List ℕ) × (h ≡ with_bytes p bytes before))
Prepared op before h = h ≡ before

-- ---- what is in hand after it

-- an inode that is to be freed is loaded
abbrev pub IsDown : InodePlace → Answer → Hand → Hand → Type 0
IsDown k (Is true) before h =
    (g : GuardState Inode) × (h ≡ with_inode k (Some g) before) × (g.value.number ≡ number_at k before) × IsSome g.value.content
IsDown k (Is false) before h = h ≡ with_reference k None before
IsDown k a before h = ⊥

abbrev pub IsJoined : Answer → Hand → Hand → Type 0
IsJoined (Number n) before h = (t : ℕ) × (h ≡ with_txn (Some t) before)
IsJoined a before h = h ≡ before

abbrev pub IsLocked : InodePlace → Answer → Hand → Hand → Type 0
IsLocked k (File f) before h =
    (g : GuardState Inode) × (h ≡ with_inode k (Some g) before) × (g.value.number ≡ f.number) × (f.number < 2 ^ 16)
IsLocked k (Refused why) before h = h ≡ before
IsLocked k a before h = ⊥

-- a file that is known to be open is never refused
abbrev pub IsOpenLocked : InodePlace → Answer → Hand → Hand → Type 0
IsOpenLocked k (File f) before h = IsLocked k (File f) before h
IsOpenLocked k a before h = ⊥

-- the last reference to a dead inode is listed; one that is aside is put into the seat
abbrev pub IsKept : InodePlace → Answer → Hand → Hand → Type 0
IsKept k (Is true) before h = h ≡ with_listed (before.listed ++ number_at k before ∷ []) (with_seated k before)
IsKept k a before h = h ≡ with_seated k before

abbrev pub IsClaimed : Place → InodePlace → Answer → Hand → Hand → Type 0
IsClaimed p k (Number n) before h = h ≡ with_reference k (Some n) before
IsClaimed p k (Is true) before h = h ≡ before
IsClaimed p k Nothing before h = h ≡ with_buffer p None before
IsClaimed p k a before h = ⊥

abbrev pub IsOpened : InodePlace → Answer → Hand → Hand → Type 0
IsOpened k (Number fd) before h = h ≡ with_reference k None before
IsOpened k a before h = h ≡ before

abbrev pub IsHanded : InodePlace → Answer → Hand → Hand → Type 0
IsHanded k (Is true) before h = (n : ℕ) × (h ≡ with_reference k (Some n) before)
IsHanded k a before h = h ≡ before

-- past the last descriptor it is the directory
abbrev pub IsLent : InodePlace → ℕ → Answer → Hand → Hand → Type 0
IsLent k from (Is true) before h = (n : ℕ) × (h ≡ with_reference k (Some n) before)
IsLent k from (Given fd more) before h = (from < descriptor_count) × (h ≡ before)
IsLent k from a before h = ⊥

abbrev pub IsAfter : Op → Hand → Answer → Hand → Type 0
IsAfter Join before a h = (t : ℕ) × (h ≡ with_txn (Some t) before)
IsAfter Leave before a h = h ≡ with_txn None before
IsAfter Commit before a h = h ≡ before
IsAfter (Get p b) before a h = (g : GuardState BufferState) × (h ≡ with_buffer p (Some g) before) × (g.value.block ≡ b)
IsAfter (Read p) before a h =
    (g : GuardState BufferState) × (h ≡ with_buffer p (Some g) before) × (g.value.block ≡ block_at p before) × IsSome g.value.content
IsAfter (Give p) before a h = h ≡ with_buffer p None before
IsAfter (Record p) before a h = h ≡ with_buffer p None before
IsAfter (Lock k) before a h = (g : GuardState Inode) × (h ≡ with_inode k (Some g) before) × (g.value.number ≡ number_at k before)
IsAfter (Unlock k) before a h = h ≡ with_inode k None before
IsAfter (Up k n) before a h = (r : Option ℕ) × (h ≡ with_reference k r before) × IfSome r (λ m. m ≡ n)
IsAfter (UpAside n) before a h = (r : Option ℕ) × (h ≡ with_aside r before) × IfSome r (λ m. m ≡ n)
IsAfter (Down k) before a h = IsDown k a before h
IsAfter (JoinToWrite fd) before a h = IsJoined a before h
IsAfter (LockFile k w fd) before a h = IsLocked k a before h
IsAfter (LockOpen k fd) before a h = IsOpenLocked k a before h
IsAfter (UnlockMoving k fd offset) before a h = h ≡ with_inode k None before
IsAfter (SetDirectory k) before a h = (n : ℕ) × (h ≡ with_reference k (Some n) (with_inode k None before))
IsAfter (UpDirectory k) before a h = (r : Option ℕ) × (h ≡ with_reference k r before)
IsAfter (DownWalked k) before a h = IsKept k a before h
IsAfter (LockListed k) before a h =
    (g : GuardState Inode) × (h ≡ with_inode k (Some g) (with_first k before)) × (g.value.number ≡ first_listed before)
IsAfter (DownFreed k) before a h = h ≡ with_reference k None before
IsAfter (CheckFile w fd) before a h = h ≡ before
IsAfter TakePlace before a h = h ≡ before
IsAfter (TakeDescriptor k file) before a h = IsOpened k a before h
IsAfter (Double fd) before a h = h ≡ before
IsAfter (Close k fd) before a h = IsHanded k a before h
IsAfter (GiveTo k child from) before a h = IsLent k from a before h
IsAfter (Claim p k) before a h = IsClaimed p k a before h
IsAfter Reply before a h = h ≡ before

-- ---- its answer, by what is in hand then

abbrev pub place_of : Op → Place
place_of (Get p b) = p
place_of (Read p) = p
place_of _ = First

abbrev pub seat_of : Op → InodePlace
seat_of (Lock k) = k
seat_of (Up k n) = k
seat_of (Down k) = k
seat_of (LockFile k w fd) = k
seat_of (LockOpen k fd) = k
seat_of (SetDirectory k) = k
seat_of (LockListed k) = k
seat_of (UpDirectory k) = k
seat_of (Close k fd) = k
seat_of (GiveTo k child from) = k
seat_of _ = One

-- the reference that came
abbrev pub referred_in : Op → Hand → Option ℕ
referred_in (UpAside n) h = h.aside
referred_in op h = reference_at (seat_of op) h

abbrev pub yes_in : Answer → Bool
yes_in (Is b) = b
yes_in _ = false

abbrev pub left_by : Bool → AfterLeave
left_by true = Commits
left_by false = Free

abbrev pub joined_by : Answer → steps.JoinResult
joined_by (Refused why) = steps.RefusesJoin why
joined_by (Number n) = steps.Joins n
joined_by _ = steps.RefusesJoin refused.BadDescriptor

abbrev pub locked_by : Answer → Inode → LockedState
locked_by (Refused why) v = Refuses why
locked_by (File f) v = Locks f v.content
locked_by _ v = Refuses refused.BadDescriptor

abbrev pub no_file : OpenFile
no_file = record { number = 0; kind = pos 0; readable = false; writable = false; offset = 0 }

abbrev pub file_by : Answer → OpenFile
file_by (File f) = f
file_by _ = no_file

abbrev pub refused_by : Answer → Option RefusedState
refused_by (Refused why) = Some why
refused_by _ = None

abbrev pub number_by : Answer → Option ℕ
number_by (Number n) = Some n
number_by _ = None

abbrev pub claimed_by : Answer → steps.ClaimResult
claimed_by (Number n) = steps.Claims n
claimed_by (Is true) = steps.NoPlace
claimed_by _ = steps.NoInode

abbrev pub doubled_by : Answer → DoubledState
doubled_by (Doubled d) = d
doubled_by _ = doubled.Full

abbrev pub shut_by : Answer → ℕ → ShutState
shut_by (Is true) n = shut.Last n
shut_by (Refused why) n = shut.BadDescriptor
shut_by _ n = shut.Closed

abbrev pub given_by : Answer → ℕ → GivenState
given_by (Given fd more) n = given.Descriptor fd more
given_by _ n = given.Directory n

abbrev pub dropped_by : Bool → Inode → DroppedState
dropped_by true v = Dies v.number v.content
dropped_by false v = Counts

abbrev pub kept_by : Bool → DroppedState
kept_by true = Keeps
kept_by false = Counts

abbrev pub drop_by : steps.Drop → Answer → Inode → DroppedState
drop_by (steps.Held n) a v = dropped_by (yes_in a) v
drop_by (steps.Walked n) a v = kept_by (yes_in a)
drop_by (steps.Freed n) a v = Counts

abbrev pub content_at : Place → Hand → Option (List ℕ)
content_at p h = option_map_or (λ (g : GuardState BufferState). g.value.content) (buffer_at p h) None

-- an answer to each operation: it is right for the one that was made
unfoldable pub answer_in : Op → Answer → Hand → (o : steps.Op) → steps.Answer o
answer_in op a h steps.Join = tt
answer_in op a h (steps.JoinToWrite fd) = joined_by a
answer_in op a h steps.Leave = left_by (yes_in a)
answer_in op a h (steps.Get b) = content_at (place_of op) h
answer_in op a h (steps.Read b) = bytes_at (place_of op) h
answer_in op a h (steps.Put b change) = tt
answer_in op a h steps.Commit = yes_in a
answer_in op a h (steps.Lock n) = (inode_in (seat_of op) h).content
answer_in op a h (steps.LockFile w fd) = locked_by a (inode_in (seat_of op) h)
answer_in op a h (steps.LockOpen fd) = (file_by a, (inode_in (seat_of op) h).content)
answer_in op a h (steps.Unlock v moved) = tt
answer_in op a h (steps.SetDirectory v) = number_at (seat_of op) h
answer_in op a h (steps.Up whom) = referred_in op h
answer_in op a h (steps.Claim b candidates) = claimed_by a
answer_in op a h (steps.Down drop) = drop_by drop a (inode_in (seat_of op) h)
answer_in op a h (steps.CheckFile w fd) = refused_by a
answer_in op a h steps.TakePlace = yes_in a
answer_in op a h (steps.TakeDescriptor n file) = number_by a
answer_in op a h (steps.Double fd) = doubled_by a
answer_in op a h (steps.Close fd) = shut_by a (number_at (seat_of op) h)
answer_in op a h (steps.GiveDescriptor child from) = given_by a (number_at (seat_of op) h)
answer_in op a h steps.Reply = tt
