-- What stays after a call that found no room.
use Rattle.std.specs.Prelude.{◌≡◌, ℕ, List, Some}
use Rattle.std.specs.List.{All}
use Rattle.run_laws.specs.Vocabulary.{sizes_of, Full, Reply, Call, TracedCall, EventOf, fresh, run, Outside, first, Came, Event, HartsOf, IsHistory, IsMounted, trace_in, WorldOf}
use Rattle.plain_tree.specs.declared.answer.Answer.TheVariants as answers
use Rattle.run_laws.specs.Changes.{changes_of}
use Rattle.run_laws.specs.Laws.{operations_of}
use Rattle.run_laws.specs.WholeInodes.{lowered_inode_calls}
pub use Rattle.call_programs.specs.Changes.{ChangedNothing, raised, lowered, TookBackRaise, AreOf, GaveUpInode, MadeFile, MadeFileAtMost, GaveBackPlace, WroteFrom, Stands}

-- ---- of each call of a run

module _ (disk : List (List ℕ)) (failures : ℕ) (history : List (EventOf Call Outside)) where
  -- so it is of a call of a trace, with the operations that the history makes for it
  abbrev pub LeavesThat : TracedCall → Type 0
  LeavesThat c =
      let s = run (lowered_inode_calls (sizes_of disk)) history (fresh (lowered_inode_calls (sizes_of disk)) (first disk failures)) in
      (number : ℕ) (reply : Reply) (room : Full) → c.finished ≡ Some (number, reply) → reply.answer ≡ answers.Full room
      → Stands room c.call (changes_of (operations_of (sizes_of disk) s c.start))

module _ {D : Type 0} (contents : D → List (List ℕ)) (failures : D → ℕ) where
  -- So it is of each call of the trace, in each history of a run of this world, if the world is as a mount left it.
  abbrev pub CallsWithoutRoomTakeBack : WorldOf D → Type 0
  CallsWithoutRoomTakeBack w =
      (device : D) (events : List Event) (came : List Came) (new : HartsOf D) (history : List (EventOf Call Outside))
      → IsMounted contents failures device w → IsHistory contents failures w.sizes w.harts events came new history
      → let now = w.harts.core.log.cache.device in
      All (LeavesThat (contents now) (failures now) history) (trace_in events came).calls
