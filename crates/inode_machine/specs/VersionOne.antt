-- The words that depend on the version, of version 1.
use Rattle.std.specs.Prelude.{Bool, List, Option, ℕ}
use Rattle.inode_machine.specs.Basics.{Mark, P}
use Rattle.inode_machine.specs.Inodes.{Face, Query, Sight}
use Rattle.inode_machine.specs.Marks.{Made}
use Rattle.inode_machine.specs.MoveCalls.{MoveMachine}
use Rattle.inode_machine.specs.Vocabulary.{Action, Call, Cause, Deed, Event, ExecResult, History, Machine, Move, MoveStep, MoveStep as Step, Name, Node, Placed, Reply, Run, Shown, Stage, State, StepAnswer, Theory, Tree, TreeData, Walk}
use Rattle.inode_machine.specs.World.{Answer, Entry, Op, Outside, World, Wrote}
use Rattle.inode_machine.specs.Exec as effects
use Rattle.inode_machine.specs.Inodes as inodes
use Rattle.inode_machine.specs.Kept as histories
use Rattle.inode_machine.specs.Making as making
use Rattle.inode_machine.specs.Marks as marks
use Rattle.inode_machine.specs.MoveCalls as move_calls
use Rattle.inode_machine.specs.Moving as moving
use Rattle.inode_machine.specs.Naming as naming
use Rattle.inode_machine.specs.Opening as opening
use Rattle.inode_machine.specs.Programs as programs
use Rattle.inode_machine.specs.Rules as rules
use Rattle.inode_machine.specs.Theory as theories
use Rattle.image_versions.specs.declared.version.Version.TheVariants.{One}

-- What is seen of an inode.

abbrev pub face_of : Option Node → Option Face
face_of = inodes.face_of One

abbrev pub seen_in : ℕ → Query → Option Node → Sight
seen_in = inodes.seen_in One

-- What operations do.

abbrev pub stat_at : ℕ → World → Option Entry → ExecResult (Option (ℕ × Face)) World
stat_at = effects.stat_at One

abbrev pub part_of : Option Node → ℕ → ℕ → List ℕ
part_of = effects.part_of One

abbrev pub read_at : World → ℕ → ℕ → Option ℕ → Option Entry → ExecResult (List ℕ) World
read_at = effects.read_at One

abbrev pub write_at : World → Option ℕ → ℕ → List ℕ → Outside → Option Entry → ExecResult Wrote World
write_at = effects.write_at One

abbrev pub exec : ℕ → Outside → (op : Op) → World → ExecResult (Answer op) World
exec = effects.exec One

-- The moves that they make.

abbrev pub act_all : Option Cause → Tree → ℕ → Action → Option ℕ → Option (ℕ × Name) → ℕ → ℕ → Tree
act_all = marks.act_all One

abbrev pub act_answer : Option Cause → Tree → ℕ → Action → Option ℕ → Option (ℕ × Name) → ℕ → StepAnswer
act_answer = marks.act_answer One

abbrev pub acts : Tree → ℕ → Action → Option ℕ → Option (ℕ × Name) → ℕ → ℕ → Made
acts = marks.acts One

abbrev pub begun : Tree → ℕ → Action → List Name → ℕ → ℕ → Made
begun = marks.begun One

abbrev pub looked : Tree → ℕ → Walk → List Name → Option ℕ → ℕ → ℕ → Made
looked = marks.looked One

abbrev pub look_made : Tree → ℕ → Option Walk → ℕ → ℕ → Made
look_made = marks.look_made One

abbrev pub made_by : Tree → ℕ → ℕ → Option Walk → Move → Made
made_by = marks.made_by One

abbrev pub marked : ℕ → Option Mark → World → World
marked = marks.marked One

abbrev pub with_mark : {A : Type 0} → ℕ → (A → Option Mark) → ExecResult A World → ExecResult A World
with_mark = marks.with_mark One

abbrev pub go : ℕ → Outside → (op : Op) → (Answer op → Option Mark) → World → ExecResult (Answer op) World
go = marks.go One

abbrev pub places : ℕ → (op : Op) → Answer op → Option Mark → World → List (ℕ × Step)
places = marks.places One

-- The calls.

abbrev pub program : Call → P Reply
program = programs.program One

abbrev pub path_cost : List ℕ → ℕ
path_cost = programs.path_cost One

abbrev pub limit : Call → ℕ
limit = programs.limit One

-- Open.

abbrev pub open_old : List ℕ → ℕ → P Reply
open_old = opening.open_old One

abbrev pub open_program : List ℕ → ℕ → P Reply
open_program = opening.open_program One

-- Names.

abbrev pub unlink_program : List ℕ → P Reply
unlink_program = naming.unlink_program One

abbrev pub mkdir_program : List ℕ → P Reply
mkdir_program = naming.mkdir_program One

abbrev pub link_raise : List ℕ → List ℕ → ℕ → List ℕ → Face → Option Cause → P Reply
link_raise = naming.link_raise One

abbrev pub link_at : List ℕ → List ℕ → ℕ → List ℕ → P Reply
link_at = naming.link_at One

abbrev pub link_program : List ℕ → List ℕ → P Reply
link_program = naming.link_program One

-- Current directories.

abbrev pub chdir_program : List ℕ → P Reply
chdir_program = moving.chdir_program One

-- Which operations a hart may ask for, and the machine.

abbrev pub IsName : (e : Name) → Type 0
IsName = rules.IsName One

abbrev pub Asks : ℕ → Op → World → Type 0
Asks = rules.Asks One

abbrev pub May : ℕ → Op → World → Type 0
May = rules.May One

abbrev pub machine : Machine
machine = rules.machine One

-- The theory of its calls.

abbrev pub calls_that : (Call → Bool) → Theory
calls_that = theories.calls_that One

-- One history.

abbrev pub TakesMove : Stage → ℕ → MoveStep → Stage → Type 0
TakesMove = move_calls.TakesMove One

abbrev pub theory_of : MoveMachine → Theory
theory_of = move_calls.theory_of One

abbrev pub shows : (m : MoveMachine) → List (Event Call m.Outside) → State (theory_of m) → List Shown
shows = move_calls.shows One

abbrev pub IsMoving : (m : MoveMachine) → Type 0
IsMoving = move_calls.IsMoving One

abbrev pub HasOneHistory : (m : MoveMachine) (base : TreeData) (w : m.World) (events : List (Event Call m.Outside)) → Type 0
HasOneHistory = move_calls.HasOneHistory One

abbrev pub RunsFrom : (m : MoveMachine) (base : TreeData) (w : m.World) (events : List (Event Call m.Outside)) → Type 0
RunsFrom = move_calls.RunsFrom One

-- The history as it is kept.

abbrev pub placed_run : (m : MoveMachine) → ℕ → m.Outside → State (theory_of m) → Option (Run (theory_of m)) → List (ℕ × MoveStep)
placed_run = histories.placed_run One

abbrev pub placed : (m : MoveMachine) → Event Call m.Outside → State (theory_of m) → List (ℕ × MoveStep)
placed = histories.placed One

abbrev pub kept_on : (m : MoveMachine) → Event Call m.Outside → State (theory_of m) → History → History
kept_on = histories.kept_on One

abbrev pub kept : (m : MoveMachine) → List (Event Call m.Outside) → State (theory_of m) → History → History
kept = histories.kept One

abbrev pub history_of : (m : MoveMachine) → m.World → List (Event Call m.Outside) → List Placed
history_of = histories.history_of One

abbrev pub IsTheHistory : (m : MoveMachine) (base : TreeData) (w : m.World) (events : List (Event Call m.Outside)) → Type 0
IsTheHistory = histories.IsTheHistory One

abbrev pub told_by_move : Stage → ℕ → ℕ → Move → Option Deed
told_by_move = histories.told_by_move One

abbrev pub stage_by : Stage → ℕ → ℕ → Move → Stage
stage_by = histories.stage_by One

-- The moves as code makes them.

abbrev pub ActsSo : (t : Tree) (h : ℕ) (s : Action) (res : Option ℕ) (par : Option (ℕ × Name)) (new : ℕ) → Type 0
ActsSo = making.ActsSo One

abbrev pub MayBegin : Tree → ℕ → Action → List Name → ℕ → Type 0
MayBegin = making.MayBegin One

abbrev pub MayLook : Tree → ℕ → Walk → List Name → Option ℕ → ℕ → Type 0
MayLook = making.MayLook One

abbrev pub MayLookOn : Tree → ℕ → Option Walk → ℕ → Type 0
MayLookOn = making.MayLookOn One

abbrev pub MayMake : (m : Stage) (h : ℕ) (v : Move) → Type 0
MayMake = making.MayMake One

abbrev pub OpensLeast : Stage → ℕ → ℕ → Move → Type 0
OpensLeast = making.OpensLeast One

abbrev pub IsMade : (m : Stage) (h : ℕ) (e : MoveStep) (m' : Stage) → Type 0
IsMade = making.IsMade One

abbrev pub MakesPlaced : ℕ → Stage → List (ℕ × MoveStep) → Stage → Type 0
MakesPlaced = making.MakesPlaced One

abbrev pub MakesItsMoves : (m : MoveMachine) → Event Call m.Outside → State (theory_of m) → Type 0
MakesItsMoves = making.MakesItsMoves One
