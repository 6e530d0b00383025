-- Runs that fill a table, from a fresh tree: that of open files, and the places for inodes in memory.
use Rattle.std.specs.Prelude.{◌≡◌, ℕ, zero, suc, ◌+◌, ◌*◌, true, false, List, [], ◌∷◌, ◌++◌, length, Option, Some, None, codes}
use Rattle.image_versions.specs.declared.version.Version.TheVariants.{One}
use Rattle.inode_machine.specs.Vocabulary.{MemInodes, OpenFiles, Reply, Call, Node, NodeKind, Directory, File, Device, OpenFile, tree_of, entries, fresh_tree, hart_count, descriptor_count, one_if, Event, State, fresh, run}
use Rattle.plain_tree.specs.declared.answer.NodeType.TheVariants as types
use Rattle.plain_tree.specs.declared.call.Call.TheVariants as calls
use Rattle.inode_machine.specs.Basics.{Entry, World, Outside, file_count, full}
use Rattle.inode_machine.specs.Theory.{at_rest, covered_calls}
use Rattle.inode_machine.specs.Examples.{first, makes, replies, done, open_root, make_a, made_a}
use Rattle.inode_machine.specs.Stories.{opened, counted, stat_is, stat, creates_as, mkdir}

-- What each hart opens with each descriptor: of one hart the first so many, and of so many harts all sixteen.

unfoldable pub opens_by : (ℕ → ℕ → List (Event Call Outside)) → ℕ → ℕ → List (Event Call Outside)
opens_by one h zero = []
opens_by one h (suc n) = opens_by one h n ++ one h n

unfoldable pub opens_for : (ℕ → ℕ → List (Event Call Outside)) → ℕ → List (Event Call Outside)
opens_for one zero = []
opens_for one (suc h) = opens_for one h ++ opens_by one h descriptor_count

-- and the replies, before others

unfoldable pub opened_by : (ℕ → ℕ → Call) → ℕ → ℕ → List Reply → List Reply
opened_by call h zero rs = rs
opened_by call h (suc n) rs = opened (call h n) n ∷ opened_by call h n rs

unfoldable pub opened_for : (ℕ → ℕ → Call) → ℕ → List Reply → List Reply
opened_for call zero rs = rs
opened_for call (suc h) rs = opened_by call h descriptor_count (opened_for call h rs)

-- The state in numbers. Of each inode: its record, the tree's node, its lock, and its references, of all and of each
-- hart. Each open file, of the table and of the tree. And each hart's descriptors, slot in hand and current directory.

abbrev pub number_of : Option ℕ → ℕ
number_of None = 0
number_of (Some n) = suc n

abbrev pub told_kind : NodeKind → List ℕ
told_kind (Directory slots) = 1 ∷ length slots ∷ entries One slots
told_kind (File bytes) = 2 ∷ length bytes ∷ bytes
told_kind (Device major minor size) = 3 ∷ []

abbrev pub told_node : Option Node → List ℕ
told_node None = 0 ∷ []
told_node (Some v) = 1 ∷ v.count ∷ told_kind v.kind

abbrev pub told_file : Option OpenFile → List ℕ
told_file None = 0 ∷ []
told_file (Some f) = 1 ∷ f.number ∷ f.offset ∷ one_if f.readable ∷ one_if f.writable ∷ []

abbrev pub told_entry : Option Entry → List ℕ
told_entry None = 0 ∷ []
told_entry (Some e) = suc e.references ∷ told_file (Some e.file)

-- of each one below a number
unfoldable pub each : ℕ → (ℕ → List ℕ) → List ℕ
each zero f = []
each (suc n) f = f n ++ each n f

abbrev pub told_inode : World → ℕ → List ℕ
told_inode w i =
    told_node (w.disk i) ++ told_node (w.all.nodes i) ++ number_of (w.lock i) ∷ w.refs i ∷ each hart_count (λ h. (w.harts h).refs i ∷ [])

abbrev pub told_hart : World → ℕ → List ℕ
told_hart w h = each descriptor_count (λ i. number_of ((w.desks h).fds i) ∷ number_of (w.all.fds h i) ∷ []) ++ number_of (w.desks h).hand
    ∷ (w.desks h).directory ∷ w.all.cwd h ∷ []

abbrev pub overview : World → List ℕ
overview w = each w.all.ninodes (told_inode w) ++ each file_count (λ k. told_entry (w.files k))
    ++ each (file_count + hart_count) (λ id. told_file (w.all.files id)) ++ each hart_count (told_hart w)

-- from a state in which each step found room these events give these replies, the newest first, of which some found
-- none; and the state is as it was
abbrev pub ChangesNothing : State (covered_calls One) → List (Event Call Outside) → List Reply → Type 0
ChangesNothing s events rs =
    (s.world.clean ≡ true) × (replies One (run (covered_calls One) events s).finished ≡ rs)
    × ((run (covered_calls One) events s).world.clean ≡ false)
    × (overview (run (covered_calls One) events s).world ≡ overview s.world)

-- A file has one byte. Then seven harts open the root a hundred times, and the eighth finds no place for an open file: the file isn't
-- emptied.

abbrev pub write_a : Call
write_a = calls.Write 0 (codes "A")

abbrev pub all_open : State (covered_calls One)
all_open = run (covered_calls One)
    (creates_as 7 make_a 5 2 10 ++ makes 7 write_a 5 ++ makes 7 (calls.Close 0) 5 ++ opens_for (λ h i. makes h open_root 8) 6
    ++ opens_by (λ h i. makes h open_root 8) 6 4) first

abbrev pub all_opened : List Reply
all_opened = opened_by (λ h i. open_root) 6 4 (opened_for (λ h i. open_root) 6 (done (calls.Close 0) ∷ counted 1 write_a ∷ made_a ∷ []))

abbrev pub empty_a : Call
empty_a = calls.Open (codes "/a") 1025

abbrev pub opens_more : List (Event Call Outside)
opens_more = makes 7 open_root 8 ++ makes 7 empty_a 12

abbrev pub opens_no_more : List Reply
opens_no_more = full empty_a OpenFiles ∷ full open_root OpenFiles ∷ all_opened

abbrev pub NoOpenFileLeft : Type 0
NoOpenFileLeft = ChangesNothing all_open opens_more opens_no_more

-- What that open makes stays: it is opened once another open file is closed.

abbrev pub make_b : Call
make_b = calls.Open (codes "/b") 514

abbrev pub open_b : Call
open_b = calls.Open (codes "/b") 0

abbrev pub NoOpenFileForNew : Type 0
NoOpenFileForNew =
    replies One (run (covered_calls One)
    (creates_as 7 make_b 5 3 10 ++ makes 0 (calls.Close 0) 5 ++ makes 7 open_b 12 ++ makes 7 stat 3) all_open).finished
    ≡ stat_is types.File 3 1 0 ∷ opened open_b 0 ∷ done (calls.Close 0) ∷ full make_b OpenFiles ∷ all_opened

-- A directory is made. Then four harts make 49 files, as inodes 3 to 51, and keep them open: with the root they have all fifty places.

abbrev pub make_file : ℕ → ℕ → Call
make_file h i = calls.Open (47 ∷ (97 + (h * descriptor_count + i)) ∷ []) 514

abbrev pub makes_file : ℕ → ℕ → List (Event Call Outside)
makes_file h i = creates_as h (make_file h i) 5 (3 + (h * descriptor_count + i)) 10

abbrev pub all_placed : State (covered_calls One)
all_placed = run (covered_calls One) (creates_as 0 (mkdir (codes "/D")) 5 2 11 ++ opens_for makes_file 3 ++ opens_by makes_file 3 1)
    (fresh (covered_calls One) (at_rest (tree_of (fresh_tree One 60))))

-- None is left for the directory, for a new file or for a new directory; and a link's raise is taken back.

abbrev pub open_directory : Call
open_directory = calls.Open (codes "/D") 0

abbrev pub make_new : Call
make_new = calls.Open (codes "/N") 514

abbrev pub link_below : Call
link_below = calls.Link (codes "/a") (codes "/D/b")

abbrev pub places_more : List (Event Call Outside)
places_more =
    makes 7 open_directory 8 ++ creates_as 7 make_new 5 52 4 ++ creates_as 7 (mkdir (codes "/N")) 5 52 4
    ++ makes 7 (calls.Chdir (codes "/D")) 8
    ++ makes 7 (calls.Unlink (codes "/D")) 10 ++ makes 7 link_below 20

abbrev pub places_no_more : List Reply
places_no_more =
    full link_below MemInodes ∷ full (calls.Unlink (codes "/D")) MemInodes ∷ full (calls.Chdir (codes "/D")) MemInodes
    ∷ full (mkdir (codes "/N")) MemInodes
    ∷ full make_new MemInodes ∷ full open_directory MemInodes
    ∷ opened_by make_file 3 1 (opened_for make_file 3 (done (mkdir (codes "/D")) ∷ []))

abbrev pub NoPlaceLeft : Type 0
NoPlaceLeft = ChangesNothing all_placed places_more places_no_more
