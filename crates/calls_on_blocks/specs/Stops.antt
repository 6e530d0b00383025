-- A stop at any event of a file system that is mounted: what its disk is then.
use Rattle.std.specs.Prelude.{◌≡◌, ℕ, ◌≤◌, List, ◌++◌, length, Some}
use Rattle.calls_on_blocks.specs.Vocabulary.{sizes_of, version_in, Call, Placed, Tree, tree_of, Chain, IsNamedPart, IsWellFormed, tree_in, Marks, no_marks, IsMarked, Event, State, AllHonest, fresh, run, before, Outside, HasOneHistory, NoneClimbs, Alone, IsMountable}
use Rattle.calls_on_blocks.specs.History.{block_moves, first, RunsOn}
use Rattle.calls_on_blocks.specs.Theory.{block_calls}
use Rattle.calls_on_blocks.specs.Marks.{marks_after, noted, told_between}

-- Events of a disk that was mounted, at answers that the device may give. A step may have found no room, paths may climb, and the device
-- may
-- have failed.
pub record AreEventsOn (disk : List (List ℕ)) (failures : ℕ) (events : List (Event Call Outside)) : Type 0 where
  pub mountable : IsMountable disk
  pub honest : AllHonest (block_calls (sizes_of disk)) events (fresh (block_calls (sizes_of disk)) (first disk failures))

-- what they make of it
abbrev pub state_after : (disk : List (List ℕ)) → ℕ → List (Event Call Outside) → State (block_calls (sizes_of disk))
state_after disk failures events = run (block_calls (sizes_of disk)) events (fresh (block_calls (sizes_of disk)) (first disk failures))

-- the disk as it is then
abbrev pub disk_after : List (List ℕ) → ℕ → List (Event Call Outside) → List (List ℕ)
disk_after disk failures events = (state_after disk failures events).world.real.blocks.state.log.contents

-- and the marks
abbrev pub marks_at : List (List ℕ) → ℕ → List (Event Call Outside) → Marks
marks_at disk failures events = marks_after (sizes_of disk) events (fresh (block_calls (sizes_of disk)) (first disk failures)) no_marks

-- It may stop in the middle of calls or of a commit, by the device's failure or not. Then the disk passes all checks,
-- as recovery sees it.
abbrev pub StopsLeaveImages : Type 0
StopsLeaveImages = (disk : List (List ℕ)) (failures : ℕ) (events : List (Event Call Outside)) → AreEventsOn disk failures events
    → IsWellFormed (disk_after disk failures events)

-- Its superblock is as it was: so the disk has the sizes and the version with which it was mounted.
abbrev pub SizesStay : Type 0
SizesStay = (disk : List (List ℕ)) (failures : ℕ) (events : List (Event Call Outside)) → AreEventsOn disk failures events
    → sizes_of (disk_after disk failures events) ≡ sizes_of disk

-- One list of tree steps explains the run. The entries of its first k events, for a k that the marks give, are a
-- beginning of it. The disk's tree is what has names in the tree to which they lead.
pub record LeavesABeginning (disk : List (List ℕ)) (failures : ℕ) (events : List (Event Call Outside)) : Type 0 where
  pub history : HasOneHistory (version_in disk) (block_moves (sizes_of disk)) (tree_in disk) (first disk failures) events
  pub k : ℕ
  pub marked : IsMarked (marks_at disk failures events) k
  pub past : k ≤ length events
  -- a doubt isn't before the cut
  pub after : (j : ℕ) → (marks_at disk failures events).doubt ≡ Some j → (marks_at disk failures events).cut ≤ j
  pub rest : List Placed
  pub begins : before k history.list ++ rest ≡ history.list
  pub tree : Tree
  pub leads : Chain (version_in disk) (tree_of (tree_in disk)) (before k history.list) tree
  pub named : IsNamedPart tree (tree_of (tree_in (disk_after disk failures events)))

-- So it is if no step found no room and no path climbs,
abbrev pub StopsLeaveABeginning : Type 0
StopsLeaveABeginning = (disk : List (List ℕ)) (failures : ℕ) (events : List (Event Call Outside)) → RunsOn disk failures events
    → NoneClimbs events → LeavesABeginning disk failures events

-- and, for any paths, if one hart alone makes calls.
abbrev pub OneHartLeavesABeginning : Type 0
OneHartLeavesABeginning = (disk : List (List ℕ)) (failures h : ℕ) (events : List (Event Call Outside)) → RunsOn disk failures events
    → Alone h events → LeavesABeginning disk failures events

-- The marks are known by the phase to which each event takes the log's commit.
abbrev pub MarksAreTold : Type 0
MarksAreTold =
    (disk : List (List ℕ)) (failures : ℕ) (events : List (Event Call Outside)) → AreEventsOn disk failures events
    → noted (block_calls (sizes_of disk)) (told_between (sizes_of disk)) events
    (fresh (block_calls (sizes_of disk)) (first disk failures)) no_marks ≡ marks_at disk failures events
