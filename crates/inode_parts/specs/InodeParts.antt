-- Operations on whole inodes, each as a part over blocks.
use Rattle.std.specs.Prelude.{◌≡◌, ℕ, Bool, true, false, List, [], Option, Some, None}
use Rattle.inode_parts.specs.Vocabulary.{Ret, bind, Hand, Op, finish_left, finish_asked, FinishReady, Ask, Heard, Version}
use Rattle.fs_machine.specs.declared.finish.Finish.TheVariants as finish
use Rattle.inode_machine.specs.World as above
use Rattle.path_walk.specs.declared.asks.Ask.TheVariants as ask
use Rattle.path_walk.specs.declared.asks.Heard.TheVariants as heard
use Rattle.inode_parts.specs.Basics.{handed, Part, step_for, step_left, step_asked, StepReady}
use Rattle.inode_parts.specs.Empties.{empty_part_left, empty_part_asked, EmptyPartReady}
use Rattle.inode_parts.specs.Enters.{enter_part_left, enter_part_asked, EnterPartReady}
use Rattle.inode_parts.specs.Clears.{clear_part_left, clear_part_asked, ClearPartReady}
use Rattle.inode_parts.specs.Fills.{fill_part_left, fill_part_asked, FillPartReady}
use Rattle.inode_parts.specs.Claims.{claim_left, claim_asked, ClaimReady}
use Rattle.inode_parts.specs.FileLocks.{lock_file_left, lock_file_asked, lock_open_left, lock_open_asked, LockFileReady, LockOpenReady}
use Rattle.inode_parts.specs.FileStats.{stat_left, stat_asked, StatReady}
use Rattle.inode_parts.specs.Frees.{free_left, free_asked, FreeReady}
use Rattle.inode_parts.specs.Takes.{take_left, take_asked, IsTold, TakeReady, TakeTold}
use Rattle.inode_parts.specs.Relocks.{relock_left, relock_asked, RelockReady}
use Rattle.inode_parts.specs.FileReads.{read_file_left, read_file_asked, FillsFrom, ReadFileReady, ReadFileTold}
use Rattle.inode_parts.specs.FileWrites.{write_file_left, write_file_asked, WriteFileReady, WriteFileTold}
use Rattle.inode_parts.specs.Stores.{store_part_left, store_part_asked, StorePartReady}
use Rattle.inode_parts.specs.declared.note.Notes.{Notes}
use Rattle.inode_parts.specs.declared.one_step.OneStep.{OneStep}
use Rattle.inode_parts.specs.declared.part.InodePart.{InodePart}
use Rattle.inode_parts.specs.declared.part.InodePart.TheVariants as part

abbrev pub ends_with : List ℕ → Notes → Hand → Unit {0} → Part
ends_with path m h _ = Ret (handed path m heard.WasDone h)

abbrev pub part_left : List ℕ → Notes → InodePart → Hand → Part
part_left path m (part.One s) h = step_left path m s h
part_left path m (part.Leave f) h = bind (finish_left f h) (ends_with path m h)
part_left path m (part.Store p) h = store_part_left path m p h
part_left path m (part.Empty p) h = empty_part_left path m p h
part_left path m (part.Enter p) h = enter_part_left path m p h
part_left path m (part.Clear p) h = clear_part_left path m p h
part_left path m (part.Fill p) h = fill_part_left path m p h
part_left path m (part.Free p) h = free_left path m p h
part_left path m (part.Claim p) h = claim_left path m p h
part_left path m (part.LockOpen p) h = lock_open_left path m p h
part_left path m (part.LockFile p) h = lock_file_left path m p h
part_left path m (part.StatFile p) h = stat_left path m p h
part_left path m (part.Take p) h = take_left path m p h
part_left path m (part.Relock p) h = relock_left path m p h
part_left path m (part.ReadFile p) h = read_file_left path p h
part_left path m (part.WriteFile p) h = write_file_left path p h

abbrev pub part_left_after : List ℕ → Notes → Option Heard → InodePart → Hand → Part
part_left_after path m None p h = part_left path m p h
part_left_after path m (Some x) p h = Ret (handed path m x h)

abbrev pub part_asked : InodePart → Op
part_asked (part.One s) = step_asked s
part_asked (part.Leave f) = finish_asked f
part_asked (part.Store p) = store_part_asked p
part_asked (part.Empty p) = empty_part_asked p
part_asked (part.Enter p) = enter_part_asked p
part_asked (part.Clear p) = clear_part_asked p
part_asked (part.Fill p) = fill_part_asked p
part_asked (part.Free p) = free_asked p
part_asked (part.Claim p) = claim_asked p
part_asked (part.LockOpen p) = lock_open_asked p
part_asked (part.LockFile p) = lock_file_asked p
part_asked (part.StatFile p) = stat_asked p
part_asked (part.Take p) = take_asked p
part_asked (part.Relock p) = relock_asked p
part_asked (part.ReadFile p) = read_file_asked p
part_asked (part.WriteFile p) = write_file_asked p

abbrev pub PartReady : InodePart → Hand → Type 0
PartReady (part.One s) h = StepReady s h
PartReady (part.Leave f) h = FinishReady f h
PartReady (part.Store p) h = StorePartReady p h
PartReady (part.Empty p) h = EmptyPartReady p h
PartReady (part.Enter p) h = EnterPartReady p h
PartReady (part.Clear p) h = ClearPartReady p h
PartReady (part.Fill p) h = FillPartReady p h
PartReady (part.Free p) h = FreeReady p h
PartReady (part.Claim p) h = ClaimReady p h
PartReady (part.LockOpen p) h = LockOpenReady p h
PartReady (part.LockFile p) h = LockFileReady p h
PartReady (part.StatFile p) h = StatReady p h
PartReady (part.Take p) h = TakeReady p h
PartReady (part.Relock p) h = RelockReady p h
PartReady (part.ReadFile p) h = ReadFileReady p h
PartReady (part.WriteFile p) h = WriteFileReady p h

-- the names that it seeks are in the call's paths; its bytes, or the room for them, with no second text after them
abbrev pub PartTold : List ℕ → List ℕ → InodePart → Type 0
PartTold path second (part.Take p) = TakeTold path second p
PartTold path second (part.ReadFile p) = ReadFileTold path p × (second ≡ [])
PartTold path second (part.WriteFile p) = WriteFileTold path p × (second ≡ [])
PartTold path second p = Unit {0}

abbrev pub AskTold : Version → List ℕ → List ℕ → Ask → Type 0
AskTold v path second (ask.Take n q) = IsTold v path second q
AskTold v path second a = Unit {0}

-- that of an operation which is one below, or leaves a transaction
abbrev pub one_or_leave : Option OneStep → InodePart
one_or_leave (Some s) = part.One s
one_or_leave None = part.Leave finish.Leave

abbrev pub part_for : above.Op → Hand → InodePart
part_for op h = one_or_leave (step_for op h)

-- what is asked to be read goes to the front of the call's text
abbrev pub FillsAs : Ask → List ℕ → Part → Type 0
FillsAs (ask.ReadFile fd n offset count) text q = FillsFrom text q
FillsAs a text q = Unit {0}

-- it reads into the call's text
abbrev pub ReadsInto : InodePart → Type 0
ReadsInto (part.ReadFile p) = Unit {0}
ReadsInto p = ⊥

-- it may be more than one operation
abbrev pub MayGoOn : InodePart → Type 0
MayGoOn (part.One s) = ⊥
MayGoOn p = Unit {0}

-- it changes no inode
abbrev pub ChangesNone : InodePart → Type 0
ChangesNone (part.One s) = Unit {0}
ChangesNone (part.Leave f) = Unit {0}
ChangesNone p = ⊥

-- an ask that is one operation below, or leaves a transaction
abbrev pub is_short : Ask → Bool
is_short (ask.Store n count) = false
is_short (ask.Empty n) = false
is_short (ask.Enter d e n) = false
is_short (ask.Clear d e) = false
is_short (ask.Fill n d) = false
is_short (ask.Free n) = false
is_short (ask.Claim inode_type) = false
is_short (ask.LockOpen fd n) = false
is_short (ask.LockFile fd) = false
is_short (ask.StatFile fd) = false
is_short (ask.Take n query) = false
is_short (ask.ReadFile fd n offset count) = false
is_short (ask.WriteFile fd n offset index) = false
is_short a = true
