-- The programs of link, unlink and mkdir.
use Rattle.std.specs.Prelude.{ℕ, ◌+◌, ◌-◌, Bool, true, false, ◌||◌, not, List, [], ◌∷◌, ◌==◌, nat_lt, Option, Some, None, if◌then◌else◌}
use Rattle.image_versions.specs.declared.version.Version.{Version}
use Rattle.inode_machine.specs.Vocabulary.{Cause, NoEntry, Exists, IsDirectory, NotEmpty, DotName, TooManyLinks, MemInodes, Blocks, DiskInodes, DirectorySlots as Directory, Reply, Call, Action, Name, elements, same_name, dot, dotdot, count_limit, Do, unmarked, Begin, Look}
use Rattle.plain_tree.specs.declared.call.Call.TheVariants as calls
use Rattle.plain_tree.specs.declared.step.Action.TheVariants as steps
use Rattle.inode_machine.specs.Basics.{OfDirectory, Face, face_or, Sight, AtNothing, AtName, AtEntries, is_directory_type, is_live_face, Mark, ClaimResult, New, NoInode, NoPlace, EntryResult, InPlace, NoBlock, NoSlot, P, makes, own_step, mends_if_full, failed, full, done, drop, give_up, tail, stopped, walk, walk_parent, start, looks_if, looks_where, is_there}
use Rattle.inode_machine.specs.World.Op.{Take, UnlockInode, Up, Forget, Claim, Store, Fill, Enter, Clear, Join}
use Rattle.inode_machine.specs.World.Mark.{Mends}
use Rattle.inode_machine.specs.Opening.{entered_file, unmake, mends_unless_new}

-- no room was found for a name
abbrev pub no_room : Call → EntryResult → Reply
no_room c InPlace = done c
no_room c NoBlock = full c Blocks
no_room c NoSlot = full c Directory

-- a last name is looked for, in a path that has elements
abbrev pub in_parent : Call → Action → List ℕ → (ℕ → Name → List ℕ → P Reply) → List Name → P Reply
in_parent c s path k [] = Do Join (λ _. makes (Begin s 0)) (λ _. tail [] (failed c NoEntry))
in_parent c s path k (e ∷ es) =
    Do Join unmarked (λ _.
    start s path [] (λ d. walk_parent s d e es [] k (λ why ns. tail ns (stopped c why))) (λ why ns. tail ns (stopped c why)))

-- Unlink. The name goes, then the counts of its directory and of what it named.

abbrev pub lower_parent : {A : Type 0} → ℕ → Face → Face → P A → P A
lower_parent d f g k = if is_directory_type g.inode_type then Do (Store d (f.count - 1)) unmarked (λ _. k) else k

abbrev pub clear_name : List ℕ → ℕ → Name → List ℕ → Face → ℕ → Face → P Reply
clear_name path d e ns f n g =
    Do (Clear d e) (λ _. makes (Look 0)) (λ _.
    lower_parent d f g
    (give_up d
    (Do (Store n (g.count - 1)) unmarked (λ _.
    give_up n
    (tail ns (done (calls.Unlink path)))))))

abbrev pub unlink_child : List ℕ → ℕ → Name → List ℕ → Face → ℕ → P Reply
unlink_child path d e ns f n =
    Do (Take n AtEntries) (λ a. looks_if (not a.empty)) (λ a.
    if a.empty then clear_name path d e ns f n (face_or a.face) else give_up n (give_up d (tail ns (failed (calls.Unlink path) NotEmpty))))

-- what is found is another inode than the directory, which no name but the dots has in itself
abbrev pub unlink_other : List ℕ → ℕ → Name → List ℕ → Face → ℕ → P Reply
unlink_other path d e ns f n =
    Do (Up n) mends_if_full (λ there.
    if there then unlink_child path d e ns f n else give_up d (tail ns (full (calls.Unlink path) MemInodes)))

abbrev pub unlink_found : List ℕ → ℕ → Name → List ℕ → Face → Option ℕ → P Reply
unlink_found path d e ns f None = give_up d (tail ns (failed (calls.Unlink path) NoEntry))
unlink_found path d e ns f (Some n) =
    if n == d then give_up d (tail ns (failed (calls.Unlink path) NoEntry)) else unlink_other path d e ns f n

abbrev pub is_missing : Sight → Bool
is_missing a = not (is_there a)

abbrev pub unlink_named : List ℕ → ℕ → Name → List ℕ → P Reply
unlink_named path d e ns =
    Do (Take d (AtName e)) (looks_where (steps.Unlink path) is_missing) (λ a. unlink_found path d e ns (face_or a.face) a.found)

abbrev pub or_missing : Cause → Bool → Cause
or_missing k true = k
or_missing k false = NoEntry

abbrev pub always : Sight → Bool
always a = true

abbrev pub unlink_dots : List ℕ → ℕ → List ℕ → P Reply
unlink_dots path d ns =
    Do (Take d AtNothing) (looks_where (steps.Unlink path) always)
    (λ a. give_up d (tail ns (failed (calls.Unlink path) (or_missing DotName (is_live_face a.face)))))

abbrev pub unlink_in : List ℕ → ℕ → Name → List ℕ → P Reply
unlink_in path d e ns = if same_name e dot || same_name e dotdot then unlink_dots path d ns else unlink_named path d e ns

abbrev pub unlink_program : Version → List ℕ → P Reply
unlink_program version path = in_parent (calls.Unlink path) (steps.Unlink path) path (unlink_in path) (elements version path)

-- Mkdir. The new directory with its two entries first, then its name and its parent's count.

abbrev pub name_directory : List ℕ → ℕ → Face → ℕ → List ℕ → EntryResult → P Reply
name_directory path d f n ns InPlace =
    Do (Store d (f.count + 1)) unmarked (λ _.
    give_up d
    (give_up n
    (tail ns (done (calls.Mkdir path)))))
name_directory path d f n ns NoBlock = unmake n d ns (full (calls.Mkdir path) Blocks)
name_directory path d f n ns NoSlot = unmake n d ns (full (calls.Mkdir path) Directory)

-- what is claimed is another inode than the directory, which isn't free
abbrev pub mkdir_other : List ℕ → ℕ → Name → List ℕ → Face → ℕ → P Reply
mkdir_other path d e ns f n =
    Do (Take n AtNothing) unmarked (λ _.
    Do (Store n 1) unmarked (λ _.
    Do (Fill n d) mends_if_full (λ there.
    if there
    then Do (Enter d e n) (entered_file n) (name_directory path d f n ns)
    else unmake n d ns (full (calls.Mkdir path) Blocks))))

abbrev pub mkdir_with : List ℕ → ℕ → Name → List ℕ → Face → ClaimResult → P Reply
mkdir_with path d e ns f NoInode = give_up d (tail ns (full (calls.Mkdir path) DiskInodes))
mkdir_with path d e ns f NoPlace = give_up d (tail ns (full (calls.Mkdir path) MemInodes))
mkdir_with path d e ns f (New n) =
    if n == d then Do (Forget n) unmarked (λ _. give_up d (tail ns (full (calls.Mkdir path) MemInodes))) else mkdir_other path d e ns f n

-- why a directory isn't made: its name is there, or its parent has all its links
abbrev pub mkdir_refused : Option ℕ → Face → Option Cause
mkdir_refused (Some n) f = Some Exists
mkdir_refused None f = if nat_lt f.count count_limit then None else Some TooManyLinks

abbrev pub is_refused : {A : Type 0} → Option A → Bool
is_refused None = false
is_refused (Some k) = true

abbrev pub mkdir_on : List ℕ → ℕ → Name → List ℕ → Face → Option Cause → P Reply
mkdir_on path d e ns f (Some c) = give_up d (tail ns (failed (calls.Mkdir path) c))
mkdir_on path d e ns f None = Do (Claim OfDirectory) mends_unless_new (mkdir_with path d e ns f)

abbrev pub mkdir_in : List ℕ → ℕ → Name → List ℕ → P Reply
mkdir_in path d e ns =
    Do (Take d (AtName e)) (looks_where (steps.Mkdir path) (λ a. is_refused (mkdir_refused a.found (face_or a.face)))) (λ a.
    if is_live_face a.face
    then mkdir_on path d e ns (face_or a.face) (mkdir_refused a.found (face_or a.face))
    else give_up d (tail ns (failed (calls.Mkdir path) NoEntry)))

abbrev pub mkdir_program : Version → List ℕ → P Reply
mkdir_program version path = in_parent (calls.Mkdir path) (steps.Mkdir path) path (mkdir_in path) (elements version path)

-- Link. The count goes up first, and down again if the name can't be entered.

abbrev pub lower : List ℕ → List ℕ → ℕ → Reply → List ℕ → P Reply
lower old new n r ns =
    Do (Take n AtNothing) unmarked (λ a.
    Do (Store n ((face_or a.face).count - 1)) (λ _. own_step steps.Unbump) (λ _.
    give_up n
    (tail ns r)))

abbrev pub named_on : List ℕ → List ℕ → ℕ → ℕ → List ℕ → EntryResult → P Reply
named_on old new n d ns InPlace = give_up d (drop n (tail ns (done (calls.Link old new))))
named_on old new n d ns NoBlock = give_up d (lower old new n (full (calls.Link old new) Blocks) ns)
named_on old new n d ns NoSlot = give_up d (lower old new n (full (calls.Link old new) Directory) ns)

-- a name is entered for a node that is there
abbrev pub enters : EntryResult → Option Mark
enters InPlace = makes (Look 0)
enters NoBlock = Some Mends
enters NoSlot = Some Mends

abbrev pub link_found : List ℕ → List ℕ → ℕ → ℕ → Name → List ℕ → Option ℕ → P Reply
link_found old new n d e ns (Some m) = give_up d (lower old new n (failed (calls.Link old new) Exists) ns)
link_found old new n d e ns None = Do (Enter d e n) enters (named_on old new n d ns)

abbrev pub link_in : List ℕ → List ℕ → ℕ → ℕ → Name → List ℕ → P Reply
link_in old new n d e ns =
    Do (Take d (AtName e)) (looks_where (steps.Enter new) is_there) (λ a.
    if is_live_face a.face then link_found old new n d e ns a.found
    else give_up d (lower old new n (failed (calls.Link old new) NoEntry) ns))

abbrev pub link_name : List ℕ → List ℕ → ℕ → List ℕ → List Name → P Reply
link_name old new n ns [] =
    Do (UnlockInode n) (λ _. makes (Begin (steps.Enter new) 0)) (λ _. lower old new n (failed (calls.Link old new) NoEntry) ns)
link_name old new n ns (e ∷ es) =
    Do (UnlockInode n) unmarked (λ _.
    start (steps.Enter new) new ns (λ d.
    walk_parent (steps.Enter new) d e es ns (link_in old new n) (λ why ms. lower old new n (stopped (calls.Link old new) why) ms))
    (λ why ms. lower old new n (stopped (calls.Link old new) why) ms))

-- why a link isn't raised: it is to a directory, as was decided when that was found, or there are too many
abbrev pub bump_refused : Face → Option Cause
bump_refused f = if nat_lt f.count count_limit then None else Some TooManyLinks

abbrev pub bumps_if : Face → Option Mark
bumps_if f = if is_directory_type f.inode_type then None else (if is_refused (bump_refused f) then own_step steps.Bump else None)

abbrev pub link_raise : Version → List ℕ → List ℕ → ℕ → List ℕ → Face → Option Cause → P Reply
link_raise version old new n ns f (Some c) = give_up n (tail ns (failed (calls.Link old new) c))
link_raise version old new n ns f None =
    Do (Store n (f.count + 1)) (λ _. own_step steps.Bump) (λ _. link_name old new n ns (elements version new))

abbrev pub link_at : Version → List ℕ → List ℕ → ℕ → List ℕ → P Reply
link_at version old new n ns =
    Do (Take n AtNothing) (λ a. bumps_if (face_or a.face)) (λ a.
    if is_directory_type (face_or a.face).inode_type
    then give_up n (tail ns (failed (calls.Link old new) IsDirectory))
    else link_raise version old new n ns (face_or a.face) (bump_refused (face_or a.face)))

abbrev pub link_program : Version → List ℕ → List ℕ → P Reply
link_program version old new =
    Do Join unmarked (λ _.
    start (steps.Find old) old [] (λ d.
    walk (steps.Find old) d (elements version old) [] (link_at version old new) (λ why ns. tail ns (stopped (calls.Link old new) why)))
    (λ why ns. tail ns (stopped (calls.Link old new) why)))
