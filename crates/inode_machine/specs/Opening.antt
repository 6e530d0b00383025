-- The program of open.
use Rattle.std.specs.Prelude.{ℕ, Bool, ◌&&◌, ◌||◌, not, List, [], ◌∷◌, ◌==◌, Option, Some, None, if◌then◌else◌}
use Rattle.image_versions.specs.declared.version.Version.{Version}
use Rattle.plain_tree.specs.declared.answer.Answer.TheVariants as answers
use Rattle.inode_machine.specs.Vocabulary.{Cause, NoEntry, MemInodes, OpenFiles, Descriptors, Blocks, DiskInodes, DirectorySlots as Directory, Reply, OpenFile, Name, elements, has, write_only, read_write, empty_it, creates, Do, unmarked, Begin, Look}
use Rattle.plain_tree.specs.declared.call.Call.TheVariants as calls
use Rattle.plain_tree.specs.declared.step.Action.TheVariants as steps
use Rattle.inode_machine.specs.Basics.{InodeType, OfFile, face_or, AtNothing, AtName, is_file_type, is_live_face, open_refusal, Mark, ClaimResult, New, NoInode, NoPlace, EntryResult, InPlace, NoBlock, NoSlot, P, makes, own_step, mends_if_full, failed, full, drop, give_up, tail, stopped, walk, walk_parent, start, looks_where, is_there}
use Rattle.inode_machine.specs.World.Op.{Take, UnlockInode, Up, Forget, Claim, Store, Enter, Empty, Slot, Install, Join}
use Rattle.inode_machine.specs.World.Mark.{Mends, Orphans}

-- an open file at its beginning
abbrev pub file_for : ℕ → ℕ → OpenFile
file_for n flags =
    record { number = n; offset = 0; readable = not (has flags write_only); writable = has flags write_only || has flags read_write }

abbrev pub empties : ℕ → InodeType → Bool
empties flags inode_type = has flags empty_it && is_file_type inode_type

abbrev pub opened_reply : List ℕ → ℕ → ℕ → Reply
opened_reply path flags fd = record { answer = answers.Fd fd; call = calls.Open path flags }

-- A slot and a descriptor for an inode whose lock is had; without one the inode is given up.

abbrev pub installs : (ℕ → Option Mark) → Option ℕ → Option Mark
installs then_ None = Some Mends
installs then_ (Some fd) = then_ fd

abbrev pub installed_on : List ℕ → ℕ → ℕ → List ℕ → (ℕ → P Reply) → Option ℕ → P Reply
installed_on path flags n ns k None = give_up n (tail ns (full (calls.Open path flags) Descriptors))
installed_on path flags n ns k (Some fd) = k fd

abbrev pub take_descriptor : List ℕ → ℕ → ℕ → InodeType → List ℕ → (ℕ → Option Mark) → (ℕ → P Reply) → P Reply
take_descriptor path flags n inode_type ns mark k =
    Do Slot mends_if_full (λ there.
    if there
    then Do (Install (file_for n flags) inode_type) (installs mark) (installed_on path flags n ns k)
    else give_up n (tail ns (full (calls.Open path flags) OpenFiles)))

-- What is there is opened. Its type may refuse it, as was decided when it was found.

abbrev pub open_end : List ℕ → ℕ → ℕ → List ℕ → ℕ → P Reply
open_end path flags n ns fd = Do (UnlockInode n) unmarked (λ _. tail ns (opened_reply path flags fd))

abbrev pub open_face : List ℕ → ℕ → ℕ → List ℕ → InodeType → Option Cause → P Reply
open_face path flags n ns inode_type (Some c) = give_up n (tail ns (failed (calls.Open path flags) c))
open_face path flags n ns inode_type None =
    take_descriptor path flags n inode_type ns (λ fd. None) (λ fd.
    if empties flags inode_type
    then Do (Empty n) (λ _. own_step (steps.Truncate fd)) (λ _. open_end path flags n ns fd)
    else open_end path flags n ns fd)

abbrev pub open_at : List ℕ → ℕ → ℕ → List ℕ → P Reply
open_at path flags n ns =
    Do (Take n AtNothing) unmarked
    (λ a. open_face path flags n ns (face_or a.face).inode_type (open_refusal (flags == 0) (face_or a.face).inode_type))

-- without CREATE
abbrev pub open_old : Version → List ℕ → ℕ → P Reply
open_old version path flags =
    Do Join unmarked (λ _.
    start (steps.Open path flags) path [] (λ d.
    walk (steps.Open path flags) d (elements version path) [] (open_at path flags)
    (λ why ns. tail ns (stopped (calls.Open path flags) why)))
    (λ why ns. tail ns (stopped (calls.Open path flags) why)))

-- With CREATE. A name that isn't there is made: the inode first, then its name.

-- a new file is empty
abbrev pub truncates : ℕ → ℕ → Option Mark
truncates flags fd = if has flags empty_it then own_step (steps.Truncate fd) else None

abbrev pub open_made : List ℕ → ℕ → ℕ → InodeType → List ℕ → P Reply
open_made path flags n inode_type ns = take_descriptor path flags n inode_type ns (truncates flags) (open_end path flags n ns)

abbrev pub entered_file : ℕ → EntryResult → Option Mark
entered_file n InPlace = makes (Look n)
entered_file n NoBlock = Some Mends
entered_file n NoSlot = Some Mends

-- the new inode has no name, and is freed
abbrev pub unmake : ℕ → ℕ → List ℕ → Reply → P Reply
unmake n d ns r = Do (Store n 0) (λ _. Some (Orphans n)) (λ _. give_up n (give_up d (tail ns r)))

abbrev pub make_on : List ℕ → ℕ → ℕ → InodeType → ℕ → List ℕ → EntryResult → P Reply
make_on path flags n inode_type d ns InPlace = Do (UnlockInode d) unmarked (λ _. drop d (open_made path flags n inode_type ns))
make_on path flags n inode_type d ns NoBlock = unmake n d ns (full (calls.Open path flags) Blocks)
make_on path flags n inode_type d ns NoSlot = unmake n d ns (full (calls.Open path flags) Directory)

abbrev pub mends_unless_new : ClaimResult → Option Mark
mends_unless_new (New n) = None
mends_unless_new NoInode = Some Mends
mends_unless_new NoPlace = Some Mends

-- what is claimed is another inode than the directory, which isn't free; it is opened as the sort that is seen of it
abbrev pub make_other : List ℕ → ℕ → ℕ → Name → List ℕ → ℕ → P Reply
make_other path flags d e ns n =
    Do (Take n AtNothing) unmarked (λ a.
    Do (Store n 1) unmarked (λ _.
    Do (Enter d e n) (entered_file n) (make_on path flags n (face_or a.face).inode_type d ns)))

abbrev pub make_with : List ℕ → ℕ → ℕ → Name → List ℕ → ClaimResult → P Reply
make_with path flags d e ns NoInode = give_up d (tail ns (full (calls.Open path flags) DiskInodes))
make_with path flags d e ns NoPlace = give_up d (tail ns (full (calls.Open path flags) MemInodes))
make_with path flags d e ns (New n) = if n == d
    then Do (Forget n) unmarked (λ _. give_up d (tail ns (full (calls.Open path flags) MemInodes))) else make_other path flags d e ns n

abbrev pub create_found : List ℕ → ℕ → ℕ → Name → List ℕ → Option ℕ → P Reply
create_found path flags d e ns None = Do (Claim OfFile) mends_unless_new (make_with path flags d e ns)
create_found path flags d e ns (Some n) =
    Do (Up n) mends_if_full (λ there.
    if there then give_up d (open_at path flags n ns) else give_up d (tail ns (full (calls.Open path flags) MemInodes)))

abbrev pub create_in : List ℕ → ℕ → ℕ → Name → List ℕ → P Reply
create_in path flags d e ns =
    Do (Take d (AtName e)) (looks_where (steps.Open path flags) is_there) (λ a.
    if is_live_face a.face then create_found path flags d e ns a.found else give_up d (tail ns (failed (calls.Open path flags) NoEntry)))

abbrev pub open_new : List ℕ → ℕ → List Name → P Reply
open_new path flags [] = Do Join (λ _. makes (Begin (steps.Open path flags) 0)) (λ _. tail [] (failed (calls.Open path flags) NoEntry))
open_new path flags (e ∷ es) =
    Do Join unmarked (λ _.
    start (steps.Open path flags) path [] (λ d.
    walk_parent (steps.Open path flags) d e es [] (create_in path flags) (λ why ns. tail ns (stopped (calls.Open path flags) why)))
    (λ why ns. tail ns (stopped (calls.Open path flags) why)))

abbrev pub open_program : Version → List ℕ → ℕ → P Reply
open_program version path flags = if creates flags then open_new path flags (elements version path) else open_old version path flags
