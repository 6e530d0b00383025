-- The result of a mounted file system's runs: one list of tree steps.
use Rattle.std.specs.Prelude.{ℕ, List, ◌∷◌, ◌++◌, None}
use Rattle.calls_on_blocks.specs.Vocabulary.{Super, sizes_of, version_in, Call, tree_in, Event, AllHonest, fresh, run, Both, Outside, MoveMachine, HasOneHistory, NoneClimbs, Alone, IsMountable, first_world, mounted}
use Rattle.inode_machine.specs.World as above
use Rattle.inode_machine.specs.Making.{MakesItsMoves}
use Rattle.calls_on_blocks.specs.Layer.{World}
use Rattle.calls_on_blocks.specs.Theory.{block_calls}

-- the calls on the blocks, as calls whose steps are moves on the tree
abbrev pub block_moves : Super → MoveMachine
block_moves sizes =
    let T = block_calls sizes in
    record {
      Op = T.M.Op;
      Answer = T.M.Answer;
      Mark = T.M.Mark;
      World = T.M.World;
      more = T.M.more;
      Outside = T.M.Outside;
      Honest = T.M.Honest;
      May = T.M.May;
      go = T.M.go;
      places = T.M.places;
      tree = T.M.tree;
      Inv = T.M.Inv;
      Halted = T.M.Halted;
      Others = T.M.Others;
      Idle = T.M.Idle;
      MayWait = T.M.MayWait;
      Clean = T.M.Clean;
      Refusal = T.Refusal;
      start = T.start;
      busy = T.busy;
      program = T.program;
      limit = T.limit;
    }

-- what a mount gives: the blocks, with no hart that has a child, and the tree that they show
abbrev pub first : List (List ℕ) → ℕ → Both World above.World
first disk failures = record { real = record { blocks = mounted disk failures; children = λ h. None }; seen = first_world disk }

-- Events of a disk that was mounted, at answers that the device may give, in which no step found no room.
pub record RunsOn (disk : List (List ℕ)) (failures : ℕ) (events : List (Event Call Outside)) : Type 0 where
  pub mountable : IsMountable disk
  pub honest : AllHonest (block_calls (sizes_of disk)) events (fresh (block_calls (sizes_of disk)) (first disk failures))
  pub clean : (block_calls (sizes_of disk)).M.Clean
      (run (block_calls (sizes_of disk)) events (fresh (block_calls (sizes_of disk)) (first disk failures))).world

-- As long as no path climbs, their replies are explained by one list of tree steps, from the image's tree.
abbrev pub MountsHaveOneHistory : Type 0
MountsHaveOneHistory =
    (disk : List (List ℕ)) (failures : ℕ) (events : List (Event Call Outside)) → RunsOn disk failures events → NoneClimbs events
    → HasOneHistory (version_in disk) (block_moves (sizes_of disk)) (tree_in disk) (first disk failures) events

-- And if one hart alone makes calls, for any paths.
abbrev pub OneHartHasOneHistory : Type 0
OneHartHasOneHistory =
    (disk : List (List ℕ)) (failures h : ℕ) (events : List (Event Call Outside)) → RunsOn disk failures events → Alone h events
    → HasOneHistory (version_in disk) (block_moves (sizes_of disk)) (tree_in disk) (first disk failures) events

-- Each of their events makes the moves that it places as code makes them, for any paths.
abbrev pub MountsMakeMoves : Type 0
MountsMakeMoves =
    (disk : List (List ℕ)) (failures : ℕ) (before later : List (Event Call Outside)) (e : Event Call Outside)
    → RunsOn disk failures (before ++ e ∷ later)
    → MakesItsMoves (version_in disk) (block_moves (sizes_of disk)) e
    (run (block_calls (sizes_of disk)) before (fresh (block_calls (sizes_of disk)) (first disk failures)))
