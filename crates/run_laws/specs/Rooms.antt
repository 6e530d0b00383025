-- Whether a run found no room: what the answers of its operations say.
use Rattle.std.specs.Prelude.{◌≡◌, ◌↔◌, ℕ, Bool, false, List}
use Rattle.run_laws.specs.Vocabulary.{sizes_of, Call, Theory, EventOf, PlacedStep, fresh, run, In, Outside, says_no_room, first, Came, Event, HartsOf, FoundRoom, IsHistory, IsMounted, WorldOf}
use Rattle.run_laws.specs.Laws.{operations_made}
use Rattle.run_laws.specs.WholeInodes.{Operation, lowered_inode_calls}

-- the operation's answer says so
abbrev pub finds_no_room : Operation → Bool
finds_no_room e = says_no_room e.op e.answer

module _ (disk : List (List ℕ)) (failures : ℕ) (events : List (EventOf Call Outside)) where
  abbrev inodes : Theory
  inodes = lowered_inode_calls (sizes_of disk)

  -- each operation on whole inodes that the events make on this mounted disk found room
  abbrev pub AllFindRoom : Type 0
  AllFindRoom =
      (e : PlacedStep (lowered_inode_calls (sizes_of disk)))
      → In e (operations_made (sizes_of disk) (run inodes events (fresh inodes (first disk failures)))) → finds_no_room e.step ≡ false

module _ {D : Type 0} (contents : D → List (List ℕ)) (failures : D → ℕ) where
  -- If this world is as a mount left it, in a history of a run each step found room exactly if each operation found
  -- room.
  abbrev pub RoomIsToldByAnswers : WorldOf D → Type 0
  RoomIsToldByAnswers w =
      (device : D) (events : List Event) (came : List Came) (new : HartsOf D) (history : List (EventOf Call Outside))
      → IsMounted contents failures device w → IsHistory contents failures w.sizes w.harts events came new history
      → let now = w.harts.core.log.cache.device in
      FoundRoom contents failures w history ↔ AllFindRoom (contents now) (failures now) history
