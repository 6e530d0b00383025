-- If a call is answered that there is none of a thing, one of its operations has not found it, when there was none.
use Rattle.std.specs.Prelude.{◌≡◌, ℕ, List, ◌∷◌, ◌++◌, Some}
use Rattle.std.specs.List.{All}
use Rattle.run_laws.specs.Vocabulary.{Super, sizes_of, Full, Reply, Call, TracedCall, Theory, EventOf, PlacedStep, State, fresh, run, Chain, Outside, World, first_world, first, Came, Event, HartsOf, IsHistory, IsMounted, trace_in, WorldOf}
use Rattle.plain_tree.specs.declared.answer.Answer.TheVariants as answers
use Rattle.run_laws.specs.Laws.{operations_made}
use Rattle.call_programs.specs.Wanted.{wanted}
use Rattle.run_laws.specs.Wants.{HasNone}
use Rattle.run_laws.specs.WholeInodes.{lowered_inode_calls}

-- The call that started at this event has made an operation that wanted this room, in a world that has none: the operations before it lead
-- to that world.
pub record FoundNone (sizes : Super) (s : State (lowered_inode_calls sizes)) (base : World) (start : ℕ) (room : Full) : Type 0 where
  pub operation : PlacedStep (lowered_inode_calls sizes)
  pub before : List (PlacedStep (lowered_inode_calls sizes))
  pub after : List (PlacedStep (lowered_inode_calls sizes))
  pub made : operations_made sizes s ≡ before ++ operation ∷ after
  pub own : operation.call ≡ start
  pub wants : wanted operation.step.op operation.step.answer ≡ Some room
  pub world : World
  pub leads : Chain (lowered_inode_calls sizes) base before world
  pub none : HasNone sizes.version world operation.hart operation.step.op room

module _ (disk : List (List ℕ)) (failures : ℕ) (history : List (EventOf Call Outside)) where
  abbrev inodes : Theory
  inodes = lowered_inode_calls (sizes_of disk)

  -- So has a call of a trace, if it is answered that there is no room.
  abbrev pub IsAnsweredRightly : TracedCall → Type 0
  IsAnsweredRightly c =
      (number : ℕ) (reply : Reply) (room : Full) → c.finished ≡ Some (number, reply) → reply.answer ≡ answers.Full room
      → FoundNone (sizes_of disk) (run inodes history (fresh inodes (first disk failures))) (first_world disk) c.start room

module _ {D : Type 0} (contents : D → List (List ℕ)) (failures : D → ℕ) where
  -- So has each call of the trace, in each history of a run of this world, if the world is as a mount left it.
  abbrev pub CallsFindNoneWhereThereIsNone : WorldOf D → Type 0
  CallsFindNoneWhereThereIsNone w =
      (device : D) (events : List Event) (came : List Came) (new : HartsOf D) (history : List (EventOf Call Outside))
      → IsMounted contents failures device w → IsHistory contents failures w.sizes w.harts events came new history
      → let now = w.harts.core.log.cache.device in
      All (IsAnsweredRightly (contents now) (failures now) history) (trace_in events came).calls
