-- So it is in each run of a mounted world.
use Rattle.std.specs.Prelude.{ℕ, List, Option, Some, None}
use Rattle.std.specs.List.{All}
use Rattle.run_laws.specs.Vocabulary.{sizes_of, Reply, Call, TracedCall, Theory, EventOf, fresh, run, Outside, first, Came, Event, HartsOf, IsHistory, IsMounted, trace_in, WorldOf, Version, version_in}
use Rattle.run_laws.specs.Laws.{BeginsRun, RefinesWholeInodes, operations_of}
use Rattle.run_laws.specs.WholeInodes.{IsRunOfCall, Operation, lowered_inode_calls}

-- These operations are a run of the call's program, which ends with this reply. If the reply says that there is none
-- of a thing, one of them wanted it. If there is no reply yet, they begin a run.
abbrev pub RunsTo : Version → Call → List Operation → Option (ℕ × Reply) → Type 0
RunsTo version call es (Some r) = IsRunOfCall version call es r.1
RunsTo version call es None = BeginsRun version call es

module _ (disk : List (List ℕ)) (failures : ℕ) (history : List (EventOf Call Outside)) where
  abbrev inodes : Theory
  inodes = lowered_inode_calls (sizes_of disk)

  -- so do those that the history makes for this call of a trace
  abbrev pub IsRun : TracedCall → Type 0
  IsRun c =
      RunsTo (version_in disk) c.call (operations_of (sizes_of disk) (run inodes history (fresh inodes (first disk failures))) c.start)
      c.finished

module _ {D : Type 0} (contents : D → List (List ℕ)) (failures : D → ℕ) where
  -- If this world is as a mount left it, each history of a run is a run of the machine of whole inodes. Each call of
  -- the trace, with its reply, is a run of its program there.
  abbrev pub WorldsRefineWholeInodes : WorldOf D → Type 0
  WorldsRefineWholeInodes w =
      (device : D) (events : List Event) (came : List Came) (new : HartsOf D) (history : List (EventOf Call Outside))
      → IsMounted contents failures device w → IsHistory contents failures w.sizes w.harts events came new history
      → let now = w.harts.core.log.cache.device in
      RefinesWholeInodes (contents now) (failures now) history
      × All (IsRun (contents now) (failures now) history) (trace_in events came).calls
