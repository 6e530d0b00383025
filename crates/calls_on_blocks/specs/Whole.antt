-- What a stop leaves whole: transactions, and calls that have replied.
use Rattle.std.specs.Prelude.{◌≡◌, ℕ, ◌+◌, ◌<◌, List, Some, slice_get, take}
use Rattle.calls_on_blocks.specs.Vocabulary.{sizes_of, Reply, Call, joined, IsMarked, Event, Step, State, DidEnd, makes, Outside}
use Rattle.calls_on_blocks.specs.Theory.{block_calls}
use Rattle.calls_on_blocks.specs.Marks.{log_at}
use Rattle.calls_on_blocks.specs.Stops.{AreEventsOn, marks_at, state_after}

-- after the first n of these events
abbrev pub state_up_to : (disk : List (List ℕ)) → ℕ → List (Event Call Outside) → ℕ → State (block_calls (sizes_of disk))
state_up_to disk failures events n = state_after disk failures (take n events)

-- After the count of events that a mark gives, no hart is in a transaction: none is stored in part.
abbrev pub MarksPartNone : Type 0
MarksPartNone =
    (disk : List (List ℕ)) (failures : ℕ) (events : List (Event Call Outside)) → AreEventsOn disk failures events → (k : ℕ)
    → IsMarked (marks_at disk failures events) k
    → joined (log_at (sizes_of disk) (state_up_to disk failures events k)).members ≡ 0

-- event i is a step of hart h that began a commit
pub record BeganCommit (disk : List (List ℕ)) (failures : ℕ) (events : List (Event Call Outside)) (i h : ℕ) : Type 0 where
  pub outside : Outside
  pub event : slice_get events i ≡ Some (Step h outside)
  pub begun : (marks_at disk failures (take (i + 1) events)).begun ≡ i + 1

-- event j gave hart h's reply
pub record HasReplied (disk : List (List ℕ)) (failures : ℕ) (events : List (Event Call Outside)) (j h : ℕ) : Type 0 where
  pub outside : Outside
  pub reply : Reply
  pub event : slice_get events j ≡ Some (Step h outside)
  pub came : (makes (block_calls (sizes_of disk)) (Step h outside) (state_up_to disk failures events j)).came ≡ DidEnd reply

-- The cut has each step that began a commit, once its hart has replied.
abbrev pub CutsHaveReplies : Type 0
CutsHaveReplies =
    (disk : List (List ℕ)) (failures : ℕ) (events : List (Event Call Outside)) → AreEventsOn disk failures events
    → (i j h : ℕ) → BeganCommit disk failures events i h → i < j → HasReplied disk failures events j h
    → i < (marks_at disk failures events).cut
