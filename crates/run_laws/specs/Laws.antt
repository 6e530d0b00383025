-- Every run of the calls on blocks is one of the machine of whole inodes, with the same replies.
use Rattle.std.specs.Prelude.{◌≡◌, ◌<◌, ◌≤◌, ℕ, false, List, ◌++◌, Some}
use Rattle.run_laws.specs.Vocabulary.{Super, sizes_of, Reply, Call, Theory, AllHonest, EventOf, FinishedCall, PlacedStep, Run, State, fresh, outcomes, run, Chain, In, IsOfCall, IsRising, history, steps_of, Both, Outside, IsMountable, first_world, first, layer, block_calls, Version}
use Rattle.inode_machine.specs.World as above
use Rattle.calls_on_blocks.specs.Layer.{World}
use Rattle.run_laws.specs.WholeInodes.{IsRunOfCall, Operation, lowered_inode_calls, unreserved}

-- these operations begin a run of the call's program
abbrev pub BeginsRun : Version → Call → List Operation → Type 0
BeginsRun version call es = (rest : List Operation) × (reply : Reply) × IsRunOfCall version call (es ++ rest) reply

module _ (sizes : Super) (s : State (lowered_inode_calls sizes)) where
  abbrev L : Theory
  L = lowered_inode_calls sizes

  -- The operations on whole inodes that were made, the oldest first: each with its hart, its call's start, and the number of its event.
  abbrev pub operations_made : List (PlacedStep (lowered_inode_calls sizes))
  operations_made = history L s

  -- those of the call that started at this event
  abbrev pub operations_of : ℕ → List Operation
  operations_of start = steps_of L start operations_made

  -- The operations made are a run of the machine of whole inodes from this world on, with the replies that were given.
  pub record IsRunFrom (base : above.World) : Type 0 where
    -- One after the other they lead to the world that is seen at the end. The blocks show that, unless a failure of the device has
    -- stopped them.
    pub leads : Chain L base operations_made (unreserved s.world.seen)
    pub rises : IsRising L 0 operations_made
    pub shown : s.stopped ≡ false → (layer sizes).Shows s.world.real s.world.seen
    -- a finished call's are a run of its program, which ends with the reply that was given; those of a call under way
    -- begin one. If the reply is that there is no room, one of them wanted it.
    pub whole : (f : FinishedCall L) → In f s.finished → IsRunOfCall sizes.version f.call (operations_of f.start) f.reply
    pub begun : (h : ℕ) (r : Run L) → s.running h ≡ Some r → BeginsRun sizes.version r.call (operations_of r.start)
    -- each is of a call, and is made between the call's start and its return, or the last event
    pub owned : (e : PlacedStep L) → In e operations_made → IsOfCall L s e
    pub within : (f : FinishedCall L) → In f s.finished
        → (e : PlacedStep L) → In e operations_made → e.call ≡ f.start → (f.start < e.number) × (e.number ≤ f.number)
    pub after : (h : ℕ) (r : Run L) → s.running h ≡ Some r
        → (e : PlacedStep L) → In e operations_made → e.call ≡ r.start → (r.start < e.number) × (e.number < s.now)

module _ (disk : List (List ℕ)) (failures : ℕ) (events : List (EventOf Call Outside)) where
  abbrev calls : Theory
  calls = block_calls (sizes_of disk)

  abbrev inodes : Theory
  inodes = lowered_inode_calls (sizes_of disk)

  abbrev start : Both World above.World
  start = first disk failures

  -- Events on a mounted disk, with the operations on whole inodes that they make. They have the same outcomes and
  -- lead to the same world as without, and those operations are a run of their machine from the image's tree.
  pub record RefinesWholeInodes : Type 0 where
    pub outcomes_are : outcomes inodes events (fresh inodes start) ≡ outcomes calls events (fresh calls start)
    pub world_is : (run inodes events (fresh inodes start)).world ≡ (run calls events (fresh calls start)).world
    pub runs : IsRunFrom (sizes_of disk) (run inodes events (fresh inodes start)) (first_world disk)

-- Whatever happens on a mounted disk, at answers that the device may give, is a run of the machine of whole inodes
-- with the same replies. That holds for any harts, also if paths climb, after a step found no room, and if the device
-- fails at any moment.
abbrev pub RunsRefineWholeInodes : Type 0
RunsRefineWholeInodes =
    (disk : List (List ℕ)) (failures : ℕ) (events : List (EventOf Call Outside)) → IsMountable disk
    → AllHonest (block_calls (sizes_of disk)) events (fresh (block_calls (sizes_of disk)) (first disk failures))
    → RefinesWholeInodes disk failures events
