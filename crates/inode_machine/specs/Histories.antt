-- All calls of a run as one list of tree steps.
use Rattle.std.specs.Prelude.{◌≡◌, ℕ, true, List}
use Rattle.image_versions.specs.declared.version.Version.{Version}
use Rattle.inode_machine.specs.Vocabulary.{Call, Placed, TreeData, settle, tree_of, Chain, Explains, trace_of, Event, AllHonest, fresh, run}
use Rattle.inode_machine.specs.Basics.{Op, Answer, Mark, World, Outside, stage_of, MoveMachine, Alone, NoneClimbs, shows}
use Rattle.inode_machine.specs.Marks.{go, places}
use Rattle.inode_machine.specs.Programs.{program, limit}
use Rattle.inode_machine.specs.Rules as rules
use Rattle.inode_machine.specs.Rules.{Inv, Idle}
use Rattle.inode_machine.specs.Theory.{Refusal, Busy, covered_calls}

-- the machine with its calls, as one of moves on the tree
abbrev pub covered : Version → MoveMachine
covered version =
    record {
      Op = Op;
      Answer = Answer;
      Mark = Mark;
      World = World;
      more = rules.more;
      Outside = Outside;
      Honest = rules.Honest;
      May = rules.May version;
      go = go version;
      places = places version;
      tree = stage_of;
      Inv = Inv;
      Halted = Inv;
      Others = rules.Others;
      Idle = Idle;
      MayWait = rules.MayWait;
      Clean = λ w. w.clean ≡ true;
      Refusal = Refusal;
      start = (covered_calls version).start;
      busy = Busy;
      program = program version;
      limit = limit version;
    }

-- One list of tree steps explains the run's trace, and leads from its first tree to the tree that its world has.
pub record OneHistory (version : Version) (base : TreeData) (w : World) (events : List (Event Call Outside)) : Type 0 where
  pub list : List Placed
  pub explains : Explains version base (trace_of (shows version (covered version) events (fresh (covered_calls version) w))) list
  pub leads : Chain version (tree_of base) list (settle (run (covered_calls version) events (fresh (covered_calls version) w)).world.all)

-- From a world in which every hart rests, on this tree, if no step found no room.
pub record Runs (version : Version) (base : TreeData) (w : World) (events : List (Event Call Outside)) : Type 0 where
  pub holds : Inv w
  pub idle : (h : ℕ) → Idle h w
  pub tree : settle w.all ≡ tree_of base
  pub honest : AllHonest (covered_calls version) events (fresh (covered_calls version) w)
  pub clean : (run (covered_calls version) events (fresh (covered_calls version) w)).world.clean ≡ true

abbrev pub CallsHaveOneHistory : Version → Type 0
CallsHaveOneHistory version =
    (base : TreeData) (w : World) (events : List (Event Call Outside)) → Runs version base w events → NoneClimbs events
    → OneHistory version base w events

-- The calls of one hart alone have, whether their paths climb or not.
abbrev pub OneHartHasOneHistory : Version → Type 0
OneHartHasOneHistory version =
    (base : TreeData) (w : World) (h : ℕ) (events : List (Event Call Outside)) → Runs version base w events → Alone h events
    → OneHistory version base w events
