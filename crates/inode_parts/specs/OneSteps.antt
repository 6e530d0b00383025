-- Operations on whole inodes that are one operation below.
use Rattle.std.specs.Prelude.{◌≡◌, ◌<◌, ◌⊎◌, ℕ, List, length, Bool, false, Option, Some, None, IsSome, is_some, ◌==◌, if◌then◌else◌, true}
use Rattle.inode_parts.specs.Vocabulary.{MatchOption, option_map_or, put, root, descriptor_count, GuardState, listed_places, Inode, Given, Hand, InodePlace, One, Two, Op, inode_at, inode_in, number_at, reference_at, new_file, cause_of, cause_if, doubled_to, shut_to, is_listed, is_dying, old_directory, with_dying, Apart, Carry, Heard}
use Rattle.fs_machine.specs.declared.files.Want.TheVariants as want
use Rattle.fs_machine.specs.declared.slots.Given.TheVariants as given
use Rattle.fs_machine.specs.Steps as steps
use Rattle.fs_machine.specs.declared.op.Op.TheVariants as ops
use Rattle.inode_machine.specs.World as above
use Rattle.path_walk.specs.declared.asks.Heard.TheVariants as heard
use Rattle.path_walk.specs.declared.asks.Joined.TheVariants as joined
use Rattle.path_walk.specs.declared.asks.Loan.TheVariants as loan
use Rattle.inode_parts.specs.Carries.{carry_in, with_note}
use Rattle.inode_parts.specs.Parts.{Part, one}
use Rattle.inode_parts.specs.declared.note.Note.TheVariants as note
use Rattle.inode_parts.specs.declared.note.Notes.{Notes}
use Rattle.inode_parts.specs.declared.one_step.OneStep.{OneStep}
use Rattle.inode_parts.specs.declared.one_step.OneStep.TheVariants as step

-- what is heard
abbrev pub joining_heard : steps.JoinResult → Heard
joining_heard (steps.RefusesJoin why) = heard.Joined (joined.Refused (cause_of why))
joining_heard (steps.Joins n) = heard.Joined (joined.For n)

abbrev pub loan_heard : Given → Heard
loan_heard (given.Descriptor fd more) = heard.Loan (loan.Lent fd more)
loan_heard (given.Directory n) = heard.Loan (loan.Moved n)

-- it leaves the locks as they are
abbrev pub still : List ℕ → (lop : steps.Op) → (steps.Answer lop → Heard) → Carry → Part
still text lop heard c = one text lop heard (λ a. c)

abbrev pub step_left : List ℕ → Notes → OneStep → Hand → Part
step_left path m (step.UnlockInode k) h =
    one path (steps.Unlock (inode_in k h) None) (λ a. heard.WasDone) (λ a. put (carry_in path m h) (inode_in k h).number Apart)
step_left path m (step.SetDirectory k) h =
    one path (steps.SetDirectory (inode_in k h)) heard.Old (λ a. put (carry_in path m h) (inode_in k h).number Apart)
step_left path m (step.UpRoot k) h = still path (steps.Up (steps.Number root)) heard.Start (carry_in path m h)
step_left path m (step.UpDirectory k) h = still path (steps.Up steps.Directory) heard.Start (carry_in path m h)
step_left path m (step.Up k n) h = still path (steps.Up (steps.Number n)) (λ a. heard.Is (is_some a)) (carry_in path m h)
step_left path m (step.UpAside n) h = still path (steps.Up (steps.Number n)) (λ a. heard.Is (is_some a)) (carry_in path m h)
step_left path m (step.WalkDown k) h =
    still path (steps.Down (steps.Walked (number_at k h))) (λ a. heard.Is (is_listed a)) (carry_in path m h)
step_left path m (step.Down k) h =
    one path (steps.Down (steps.Held (number_at k h))) (λ a. heard.Is (is_dying a)) (with_dying (number_at k h) (carry_in path m h))
step_left path m (step.Forget k) h = still path (steps.Down (steps.Freed (number_at k h))) (λ a. heard.WasDone) (carry_in path m h)
step_left path m step.Slot h = still path steps.TakePlace heard.Is (carry_in path m h)
step_left path m (step.Install k file) h = still path (steps.TakeDescriptor (number_at k h) file) heard.Start (carry_in path m h)
step_left path m (step.CheckFile fd) h = still path (steps.CheckFile want.Write fd) (λ a. heard.Checked (cause_if a)) (carry_in path m h)
step_left path m (step.JoinFile fd) h = still path (steps.JoinToWrite fd) joining_heard (carry_in path m h)
step_left path m (step.Double fd) h = still path (steps.Double fd) (λ a. heard.Doubled (doubled_to a)) (carry_in path m h)
step_left path m (step.Shut k fd) h = still path (steps.Close fd) (λ a. heard.Shut (shut_to a)) (carry_in path m h)
step_left path m (step.Lend k child from) h = still path (steps.GiveDescriptor child from) loan_heard (carry_in path m h)
step_left path m (step.LendDirectory k child) h =
    still path (steps.GiveDescriptor child descriptor_count) (λ a. heard.Old (old_directory a)) (carry_in path m h)
step_left path m step.Release h = still path steps.Reply (λ a. heard.WasDone) (carry_in path m h)
step_left path m step.Join h = still path steps.Join (λ a. heard.WasDone) (carry_in path m h)
step_left path m step.Say h = still path steps.Reply (λ a. heard.WasDone) (carry_in path m h)

abbrev pub step_asked : OneStep → Op
step_asked (step.UnlockInode k) = ops.Unlock k
step_asked (step.SetDirectory k) = ops.SetDirectory k
step_asked (step.UpRoot k) = ops.Up k root
step_asked (step.UpDirectory k) = ops.UpDirectory k
step_asked (step.Up k n) = ops.Up k n
step_asked (step.UpAside n) = ops.UpAside n
step_asked (step.WalkDown k) = ops.DownWalked k
step_asked (step.Down k) = ops.Down k
step_asked (step.Forget k) = ops.DownFreed k
step_asked step.Slot = ops.TakePlace
step_asked (step.Install k file) = ops.TakeDescriptor k file
step_asked (step.CheckFile fd) = ops.CheckFile want.Write fd
step_asked (step.JoinFile fd) = ops.JoinToWrite fd
step_asked (step.Double fd) = ops.Double fd
step_asked (step.Shut k fd) = ops.Close k fd
step_asked (step.Lend k child from) = ops.GiveTo k child from
step_asked (step.LendDirectory k child) = ops.GiveTo k child descriptor_count
step_asked step.Release = ops.Reply
step_asked step.Join = ops.Join
step_asked step.Say = ops.Reply

-- nothing is learned yet of an inode whose lock comes
abbrev pub step_notes : OneStep → Bool → Notes → Notes
step_notes (step.Down k) dies m = if dies then with_note k note.Nothing m else m
step_notes s dies m = m

-- a lock of inode n
abbrev pub locks : ℕ → Option (GuardState Inode) → Bool
locks n o = option_map_or (λ (g : GuardState Inode). n == g.value.number) o false

abbrev pub other : InodePlace → InodePlace
other One = Two
other Two = One

-- the lock of this inode is not at the other seat too
abbrev pub IsAlone : ℕ → InodePlace → Hand → Type 0
IsAlone n k h = locks n (inode_at (other k) h) ≡ false

-- one more reference may be listed
abbrev pub HasRoom : Hand → Type 0
HasRoom h = length h.listed < listed_places

abbrev pub StepReady : OneStep → Hand → Type 0
StepReady (step.UnlockInode k) h = IsSome (inode_at k h) × IsAlone (inode_in k h).number k h
StepReady (step.SetDirectory k) h =
    MatchOption (inode_at k h) ⊥ (λ g. reference_at k h ≡ Some g.value.number) × IsAlone (inode_in k h).number k h
StepReady (step.UpRoot k) h = reference_at k h ≡ None
StepReady (step.UpDirectory k) h = reference_at k h ≡ None
StepReady (step.Up k n) h = reference_at k h ≡ None
StepReady (step.UpAside n) h = h.aside ≡ None
StepReady (step.WalkDown k) h = IsSome (reference_at k h) × HasRoom h
StepReady (step.Down k) h = IsSome (reference_at k h) × (inode_at k h ≡ None) × IsAlone (number_at k h) k h
StepReady (step.Forget k) h = IsSome (reference_at k h)
StepReady step.Slot h = Unit {0}
StepReady (step.Install k file) h = IsSome (reference_at k h)
StepReady (step.CheckFile fd) h = Unit {0}
StepReady (step.JoinFile fd) h = h.txn ≡ None
StepReady (step.Double fd) h = Unit {0}
StepReady (step.Shut k fd) h = reference_at k h ≡ None
StepReady (step.Lend k child from) h = reference_at k h ≡ None
StepReady (step.LendDirectory k child) h = reference_at k h ≡ None
StepReady step.Release h = Unit {0}
StepReady step.Join h = h.txn ≡ None
StepReady step.Say h = Unit {0}

-- ---- which one an operation on whole inodes is

-- the seat of the lock of inode n, that of a reference to it, and a free one
abbrev pub seat_of_lock : ℕ → Hand → InodePlace
seat_of_lock n h = if locks n h.one then One else Two

abbrev pub refers : ℕ → Option ℕ → Bool
refers n o = option_map_or (λ (k : ℕ). n == k) o false

abbrev pub seat_of_reference : ℕ → Hand → InodePlace
seat_of_reference n h = if refers n h.to_one then One else Two

abbrev pub free_seat : Hand → InodePlace
free_seat h = if is_some h.to_one then Two else One

abbrev pub start_for : Bool → Hand → OneStep
start_for true h = step.UpRoot (free_seat h)
start_for false h = step.UpDirectory (free_seat h)

-- a reference to inode n, aside if no seat is free
abbrev pub up_for : ℕ → Hand → OneStep
up_for n h = if is_some (reference_at (free_seat h) h) then step.UpAside n else step.Up (free_seat h) n

abbrev pub step_for : above.Op → Hand → Option OneStep
step_for (above.UnlockInode n) h = Some (step.UnlockInode (seat_of_lock n h))
step_for (above.SetDirectory n) h = Some (step.SetDirectory (seat_of_lock n h))
step_for (above.UpStart absolute) h = Some (start_for absolute h)
step_for (above.Up n) h = Some (up_for n h)
step_for (above.WalkDown n) h = Some (step.WalkDown (seat_of_reference n h))
step_for (above.Down n) h = Some (step.Down (seat_of_reference n h))
step_for (above.Forget n) h = Some (step.Forget (seat_of_reference n h))
step_for above.Slot h = Some step.Slot
step_for (above.Install f inode_type) h = Some (step.Install (seat_of_reference f.number h) (new_file f inode_type))
step_for (above.CheckFile fd) h = Some (step.CheckFile fd)
step_for (above.JoinFile fd) h = Some (step.JoinFile fd)
step_for (above.Double fd) h = Some (step.Double fd)
step_for (above.Shut fd) h = Some (step.Shut (free_seat h) fd)
step_for (above.Lend child from) h = Some (step.Lend (free_seat h) child from)
step_for (above.LendDirectory child) h = Some (step.LendDirectory (free_seat h) child)
step_for (above.Release child) h = Some step.Release
step_for above.Join h = Some step.Join
step_for above.Say h = Some step.Say
step_for op h = None

-- what it asks of the hand
abbrev pub HasReference : ℕ → Hand → Type 0
HasReference n h = reference_at (seat_of_reference n h) h ≡ Some n

abbrev pub HasLock : ℕ → Hand → Type 0
HasLock n h = (locks n (inode_at (seat_of_lock n h) h) ≡ true) × IsAlone n (seat_of_lock n h) h

abbrev pub HasFreeSeat : Hand → Type 0
HasFreeSeat h = reference_at (free_seat h) h ≡ None

-- there is a place for a reference
abbrev pub MayRefer : Hand → Type 0
MayRefer h = HasFreeSeat h ⊎ (h.aside ≡ None)

abbrev pub Begins : above.Op → Hand → Type 0
Begins (above.UnlockInode n) h = HasLock n h
Begins (above.SetDirectory n) h = HasLock n h × (reference_at (seat_of_lock n h) h ≡ Some n)
Begins (above.UpStart absolute) h = HasFreeSeat h
Begins (above.Up n) h = MayRefer h
Begins (above.WalkDown n) h = HasReference n h × HasRoom h
Begins (above.Down n) h = HasReference n h × (inode_at (seat_of_reference n h) h ≡ None) × IsAlone n (seat_of_reference n h) h
Begins (above.Forget n) h = HasReference n h
Begins above.Slot h = Unit {0}
Begins (above.Install f inode_type) h = HasReference f.number h
Begins (above.CheckFile fd) h = Unit {0}
Begins (above.JoinFile fd) h = h.txn ≡ None
Begins (above.Double fd) h = Unit {0}
Begins (above.Shut fd) h = HasFreeSeat h
Begins (above.Lend child from) h = HasFreeSeat h
Begins (above.LendDirectory child) h = HasFreeSeat h
Begins (above.Release child) h = Unit {0}
Begins above.Join h = h.txn ≡ None
Begins above.Leave h = IsSome h.txn
Begins above.Say h = Unit {0}
Begins op h = ⊥
