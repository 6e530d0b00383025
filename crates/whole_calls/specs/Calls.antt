-- The rest of each call.
use Rattle.std.specs.Prelude.{◌≡◌, ◌≤◌, ℕ, ◌+◌, ◌-◌, ◌||◌, Bool, List, [], length, Option, Some, None}
use Rattle.image_versions.specs.declared.version.Version.{Version}
use Rattle.whole_calls.specs.Vocabulary.{Name, elements, same_name, dot, dotdot, NoEntry, Reply, Do, unmarked, name_in, IsElement, Face, UnlockInode, Store, SetDirectory, Join, P, failed, done, drop, give_up, tail, say, stopped, dup_program, stat_program, chdir_at, face_of, reply_to, After, Stands, most_left, walk_of, Element, Walk}
use Rattle.plain_tree.specs.declared.call.Call.TheVariants as calls
use Rattle.plain_tree.specs.declared.step.Action.TheVariants as steps
use Rattle.inode_machine.specs.Naming as naming
use Rattle.whole_calls.specs.Ends.{dropping_of, ending_of}
use Rattle.whole_calls.specs.declared.chdir.Chdir.{Chdir}
use Rattle.whole_calls.specs.declared.chdir.Chdir.TheVariants as chdir
use Rattle.whole_calls.specs.declared.descriptors.Dup.{Dup}
use Rattle.whole_calls.specs.declared.descriptors.Dup.TheVariants as dup
use Rattle.whole_calls.specs.declared.descriptors.Fstat.{Fstat}
use Rattle.whole_calls.specs.declared.descriptors.Fstat.TheVariants as fstat
use Rattle.whole_calls.specs.declared.unlink.Unlink.{Unlink}
use Rattle.whole_calls.specs.declared.unlink.Unlink.TheVariants as unlink
use Rattle.path_walk.specs.declared.walk.Goal.TheVariants as goal
use Rattle.path_walk.specs.declared.walk.Walk.TheVariants as walking

-- the longest list
abbrev pub most_listed : ℕ
most_listed = 128

-- how far a call with a path is: it begins, it walks, its walk is over and it must seek or enter a name, or that too
-- is over
pub data Stage : Type 0 where
  Fresh : Stage
  Walks : Walk → Stage
  Names : Element → Stage
  Past : Stage

-- its list has room, and the places of its walk and of its name are in the path
abbrev pub Fits : Version → List ℕ → List ℕ → Stage → Type 0
Fits v path ns Fresh = (ns ≡ []) × (length (elements v path) ≤ most_listed)
Fits v path ns (Walks w) = Stands v path w × (length ns + most_left v path w ≤ most_listed)
Fits v path ns (Names e) = IsElement v path e
Fits v path ns Past = Unit {0}

-- ---- dup, fstat

abbrev pub dup_of : ℕ → Dup → P Reply
dup_of fd dup.Double = dup_program fd
dup_of fd (dup.Says a) = say (reply_to (calls.Dup fd) a)

abbrev pub stat_of : ℕ → Fstat → P Reply
stat_of fd fstat.Look = stat_program fd
stat_of fd (fstat.UnlockInode n a) = Do (UnlockInode n) unmarked (λ _. say (reply_to (calls.Fstat fd) a))
stat_of fd (fstat.Says a) = say (reply_to (calls.Fstat fd) a)

-- ---- chdir

abbrev pub chdir_after : List ℕ → After
chdir_after path = record { found = λ n e ns. chdir_at path n ns; lost = λ why ns. tail ns (stopped (calls.Chdir path) why) }

abbrev pub chdir_of : Version → List ℕ → List ℕ → Chdir → P Reply
chdir_of v path ns chdir.Join = Do Join unmarked (λ _. walk_of v (steps.Chdir path) path (chdir_after path) goal.Inside ns walking.Start)
chdir_of v path ns (chdir.Walks w) = walk_of v (steps.Chdir path) path (chdir_after path) goal.Inside ns w
chdir_of v path ns (chdir.Look n) = chdir_at path n ns
chdir_of v path ns (chdir.SetDirectory n) = Do (SetDirectory n) unmarked (λ old. drop old (tail ns (done (calls.Chdir path))))
chdir_of v path ns (chdir.Ends e) = ending_of (calls.Chdir path) ns e

abbrev pub chdir_stage : Chdir → Stage
chdir_stage chdir.Join = Fresh
chdir_stage (chdir.Walks w) = Walks w
chdir_stage c = Past

-- ---- unlink

abbrev pub is_dots : Name → Bool
is_dots e = same_name e dot || same_name e dotdot

abbrev pub unlink_in : List ℕ → ℕ → Option Name → List ℕ → P Reply
unlink_in path d None ns = tail ns (failed (calls.Unlink path) NoEntry)
unlink_in path d (Some e) ns = naming.unlink_in path d e ns

abbrev pub unlink_after : List ℕ → After
unlink_after path = record { found = unlink_in path; lost = λ why ns. tail ns (stopped (calls.Unlink path) why) }

-- the directory was given up: the other count goes down
abbrev pub gave_parent : List ℕ → List ℕ → ℕ → Face → P Reply
gave_parent path ns n g = Do (Store n (g.count - 1)) unmarked (λ _. give_up n (tail ns (done (calls.Unlink path))))

-- the name is gone
abbrev pub cleared : List ℕ → ℕ → List ℕ → Face → ℕ → Face → P Reply
cleared path d ns f n g = naming.lower_parent d f g (give_up d (gave_parent path ns n g))

abbrev pub unlink_of : Version → List ℕ → List ℕ → Unlink → P Reply
unlink_of v path ns unlink.Join = naming.unlink_program v path
unlink_of v path ns (unlink.Walks w) = walk_of v (steps.Unlink path) path (unlink_after path) goal.Parent ns w
unlink_of v path ns (unlink.Dots d) = naming.unlink_dots path d ns
unlink_of v path ns (unlink.Look d e) = naming.unlink_named path d (name_in path e) ns
unlink_of v path ns (unlink.Up x n) = naming.unlink_other path x.directory (name_in path x.element) ns (face_of x.face) n
unlink_of v path ns (unlink.Take x n) = naming.unlink_child path x.directory (name_in path x.element) ns (face_of x.face) n
unlink_of v path ns (unlink.Clear x n g) = naming.clear_name path x.directory (name_in path x.element) ns (face_of x.face) n (face_of g)
unlink_of v path ns (unlink.LowerParent x n g) =
    Do (Store x.directory (x.face.count - 1)) unmarked (λ _. give_up x.directory (gave_parent path ns n (face_of g)))
unlink_of v path ns (unlink.GiveParent d n g) = dropping_of (gave_parent path ns n (face_of g)) d
unlink_of v path ns (unlink.Lower n g) = gave_parent path ns n (face_of g)
unlink_of v path ns (unlink.Ends e) = ending_of (calls.Unlink path) ns e

abbrev pub unlink_stage : Unlink → Stage
unlink_stage unlink.Join = Fresh
unlink_stage (unlink.Walks w) = Walks w
unlink_stage (unlink.Look d e) = Names e
unlink_stage c = Past
