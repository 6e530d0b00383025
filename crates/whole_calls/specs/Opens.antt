-- The rest of an open.
use Rattle.std.specs.Prelude.{ℕ, Bool, true, false, List, Option, Some, None, if◌then◌else◌}
use Rattle.whole_calls.specs.Vocabulary.{creates, Name, MemInodes, Reply, Do, unmarked, name_in, InodeType, Mark, Orphans, Claim, Forget, Up, Store, Enter, Empty, Install, P, own_step, mends_if_full, full, give_up, tail, stopped, create_in, empties, entered_file, file_for, installed_on, installs, make_on, make_other, mends_unless_new, make_with, open_at, open_end, open_made, open_program, take_descriptor, truncates, reply_to, type_of, OfFile, After, walk_of, Goal}
use Rattle.image_versions.specs.declared.version.Version.{Version}
use Rattle.plain_tree.specs.declared.call.Call.TheVariants as calls
use Rattle.plain_tree.specs.declared.step.Action.TheVariants as steps
use Rattle.whole_calls.specs.Calls.{Stage, Fresh, Walks, Names, Past}
use Rattle.whole_calls.specs.Ends.{dropping_of, ending_of}
use Rattle.whole_calls.specs.declared.opens.Found.{Found}
use Rattle.whole_calls.specs.declared.opens.Open.{Open}
use Rattle.whole_calls.specs.declared.opens.Open.TheVariants as opening
use Rattle.path_walk.specs.declared.walk.Goal.TheVariants as goal

abbrev pub open_goal : ℕ → Goal
open_goal flags = if creates flags then goal.Parent else goal.Inside

abbrev pub open_found : List ℕ → ℕ → ℕ → Option Name → List ℕ → P Reply
open_found path flags n None ns = open_at path flags n ns
open_found path flags d (Some e) ns = create_in path flags d e ns

abbrev pub open_after : List ℕ → ℕ → After
open_after path flags = record { found = open_found path flags; lost = λ why ns. tail ns (stopped (calls.Open path flags) why) }

-- once it has a descriptor: a new file is empty
abbrev pub descriptor_mark : ℕ → Bool → ℕ → Option Mark
descriptor_mark flags true fd = truncates flags fd
descriptor_mark flags false fd = None

abbrev pub described : List ℕ → ℕ → List ℕ → ℕ → InodeType → Bool → ℕ → P Reply
described path flags ns n inode_type true fd = open_end path flags n ns fd
described path flags ns n inode_type false fd = if empties flags inode_type
    then Do (Empty n) (λ _. own_step (steps.Truncate fd)) (λ _. open_end path flags n ns fd) else open_end path flags n ns fd

abbrev pub installed : List ℕ → ℕ → List ℕ → Found → Option ℕ → P Reply
installed path flags ns x o = installed_on path flags x.number ns (described path flags ns x.number (type_of x.inode_type) x.made) o

abbrev pub open_of : Version → List ℕ → ℕ → List ℕ → Open → P Reply
open_of v path flags ns opening.Join = open_program v path flags
open_of v path flags ns (opening.Walks w) = walk_of v (steps.Open path flags) path (open_after path flags) (open_goal flags) ns w
open_of v path flags ns (opening.Take n) = open_at path flags n ns
open_of v path flags ns (opening.Slot x) = take_descriptor path flags x.number (type_of x.inode_type) ns (descriptor_mark flags x.made)
    (described path flags ns x.number (type_of x.inode_type) x.made)
open_of v path flags ns (opening.Install x) =
    Do (Install (file_for x.number flags) (type_of x.inode_type)) (installs (descriptor_mark flags x.made)) (installed path flags ns x)
open_of v path flags ns (opening.Empty n fd) = Do (Empty n) (λ _. own_step (steps.Truncate fd)) (λ _. open_end path flags n ns fd)
open_of v path flags ns (opening.UnlockInode n fd) = open_end path flags n ns fd
open_of v path flags ns (opening.Look d e) = create_in path flags d (name_in path e) ns
open_of v path flags ns (opening.Up d n) = Do (Up n) mends_if_full
    (λ there. if there then give_up d (open_at path flags n ns) else give_up d (tail ns (full (calls.Open path flags) MemInodes)))
open_of v path flags ns (opening.GiveParent d n) = dropping_of (open_at path flags n ns) d
open_of v path flags ns (opening.Claim d e) = Do (Claim OfFile) mends_unless_new (make_with path flags d (name_in path e) ns)
open_of v path flags ns (opening.ForgetSame d) = Do (Forget d) unmarked (λ _. give_up d (tail ns (full (calls.Open path flags) MemInodes)))
open_of v path flags ns (opening.TakeNew x) = make_other path flags x.directory (name_in path x.element) ns x.number
open_of v path flags ns (opening.StoreNew x inode_type) =
    Do (Store x.number 1) unmarked
    (λ _. Do (Enter x.directory (name_in path x.element) x.number) (entered_file x.number)
    (make_on path flags x.number (type_of inode_type) x.directory ns))
open_of v path flags ns (opening.Enter x inode_type) = Do (Enter x.directory (name_in path x.element) x.number) (entered_file x.number)
    (make_on path flags x.number (type_of inode_type) x.directory ns)
open_of v path flags ns (opening.GiveEntered d n inode_type) = dropping_of (open_made path flags n (type_of inode_type) ns) d
open_of v path flags ns (opening.Unmake n d a) =
    Do (Store n 0) (λ _. Some (Orphans n)) (λ _. give_up n (give_up d (tail ns (reply_to (calls.Open path flags) a))))
open_of v path flags ns (opening.Ends e) = ending_of (calls.Open path flags) ns e

abbrev pub open_stage : Open → Stage
open_stage opening.Join = Fresh
open_stage (opening.Walks w) = Walks w
open_stage (opening.Look d e) = Names e
open_stage (opening.Claim d e) = Names e
open_stage (opening.TakeNew x) = Names x.element
open_stage (opening.StoreNew x inode_type) = Names x.element
open_stage (opening.Enter x inode_type) = Names x.element
open_stage c = Past
