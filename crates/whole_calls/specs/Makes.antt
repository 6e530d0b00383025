-- The rest of a mkdir.
use Rattle.std.specs.Prelude.{ℕ, ◌+◌, List, Option, Some, None, if◌then◌else◌}
use Rattle.whole_calls.specs.Vocabulary.{Name, NoEntry, MemInodes, Blocks, Reply, Do, unmarked, name_in, OfDirectory, Face, Orphans, Claim, Forget, Store, Fill, Enter, P, mends_if_full, failed, full, done, give_up, tail, stopped, entered_file, mends_unless_new, unmake, mkdir_in, mkdir_other, mkdir_program, mkdir_with, name_directory, face_of, reply_to, After, walk_of}
use Rattle.image_versions.specs.declared.version.Version.{Version}
use Rattle.plain_tree.specs.declared.call.Call.TheVariants as calls
use Rattle.plain_tree.specs.declared.step.Action.TheVariants as steps
use Rattle.whole_calls.specs.Calls.{Stage, Fresh, Walks, Names, Past}
use Rattle.whole_calls.specs.Ends.{ending_of}
use Rattle.whole_calls.specs.declared.opens.NewName.{NewName}
use Rattle.whole_calls.specs.declared.mkdir.Mkdir.{Mkdir}
use Rattle.whole_calls.specs.declared.mkdir.Mkdir.TheVariants as making
use Rattle.path_walk.specs.declared.walk.Goal.TheVariants as goal

abbrev pub mkdir_found : List ℕ → ℕ → Option Name → List ℕ → P Reply
mkdir_found path d None ns = tail ns (failed (calls.Mkdir path) NoEntry)
mkdir_found path d (Some e) ns = mkdir_in path d e ns

abbrev pub mkdir_after : List ℕ → After
mkdir_after path = record { found = mkdir_found path; lost = λ why ns. tail ns (stopped (calls.Mkdir path) why) }

-- the new directory is to be entered
abbrev pub enters : List ℕ → List ℕ → NewName → Face → P Reply
enters path ns x f =
    Do (Enter x.directory (name_in path x.element) x.number) (entered_file x.number) (name_directory path x.directory f x.number ns)

abbrev pub fills : List ℕ → List ℕ → NewName → Face → P Reply
fills path ns x f = Do (Fill x.number x.directory) mends_if_full
    (λ there. if there then enters path ns x f else unmake x.number x.directory ns (full (calls.Mkdir path) Blocks))

abbrev pub mkdir_of : Version → List ℕ → List ℕ → Mkdir → P Reply
mkdir_of v path ns making.Join = mkdir_program v path
mkdir_of v path ns (making.Walks w) = walk_of v (steps.Mkdir path) path (mkdir_after path) goal.Parent ns w
mkdir_of v path ns (making.Look d e) = mkdir_in path d (name_in path e) ns
mkdir_of v path ns (making.Claim d e f) = Do (Claim OfDirectory) mends_unless_new (mkdir_with path d (name_in path e) ns (face_of f))
mkdir_of v path ns (making.ForgetSame d) = Do (Forget d) unmarked (λ _. give_up d (tail ns (full (calls.Mkdir path) MemInodes)))
mkdir_of v path ns (making.TakeNew x f) = mkdir_other path x.directory (name_in path x.element) ns (face_of f) x.number
mkdir_of v path ns (making.StoreNew x f) = Do (Store x.number 1) unmarked (λ _. fills path ns x (face_of f))
mkdir_of v path ns (making.Fill x f) = fills path ns x (face_of f)
mkdir_of v path ns (making.Enter x f) = enters path ns x (face_of f)
mkdir_of v path ns (making.Raise x f) =
    Do (Store x.directory (f.count + 1)) unmarked (λ _. give_up x.directory (give_up x.number (tail ns (done (calls.Mkdir path)))))
mkdir_of v path ns (making.Unmake x a) = Do (Store x.number 0) (λ _. Some (Orphans x.number))
    (λ _. give_up x.number (give_up x.directory (tail ns (reply_to (calls.Mkdir path) a))))
mkdir_of v path ns (making.Ends e) = ending_of (calls.Mkdir path) ns e

abbrev pub mkdir_stage : Mkdir → Stage
mkdir_stage making.Join = Fresh
mkdir_stage (making.Walks w) = Walks w
mkdir_stage (making.Look d e) = Names e
mkdir_stage (making.Claim d e f) = Names e
mkdir_stage (making.TakeNew x f) = Names x.element
mkdir_stage (making.StoreNew x f) = Names x.element
mkdir_stage (making.Fill x f) = Names x.element
mkdir_stage (making.Enter x f) = Names x.element
mkdir_stage c = Past
