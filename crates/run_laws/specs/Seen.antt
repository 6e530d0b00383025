-- A call that ends for want of a block or of an inode has looked everywhere, in each run.
use Rattle.std.specs.Prelude.{◌≡◌, ◌⊎◌, ℕ, ◌<◌, ◌≤◌, Bool, true, false, List, [], ◌∷◌, ◌++◌, Option, Some, None, IsSome}
use Rattle.run_laws.specs.Vocabulary.{Super, dinode_at, Blocks, DiskInodes, Call, Theory, EventOf, FinishedCall, Run, Start, State, Step, fresh, next, run, In, Both, P, Ret, Do, ExecResult, Ran, Stops, Waits, place_in_memory, Outside, AnswerBelow as Answer, HasNoInode as NoInode, is_zero, inode_block, place_of, first, block_calls, Came, Event, HartsOf, IsHistory, IsMounted, WorldOf}
use Rattle.plain_tree.specs.declared.answer.Answer.TheVariants as answers
use Rattle.fs_machine.specs.Steps as steps
use Rattle.fs_machine.specs.Steps.{Claim, Op}
use Rattle.inode_machine.specs.World as above
use Rattle.calls_on_blocks.specs.Layer.{World}
use Rattle.run_laws.specs.Searches.{AnsweredStep, HasRead, SawNoBlock}

-- ---- the steps of a run

-- A step on the blocks that was made: its event's number, its hart, its operation with its answer, and the state in which it was made.
pub record MadeStep : Type 0 where
  pub number : ℕ
  pub hart : ℕ
  pub step : AnsweredStep
  pub before : steps.State

-- one that ran
abbrev pub if_ran : ℕ → ℕ → Both World above.World → (op : Op) → ExecResult (Answer op) (Both World above.World) → List MadeStep
if_ran number h w op Waits = []
if_ran number h w op (Ran a u) = record { number = number; hart = h; step = (op, a); before = w.real.blocks.state } ∷ []
if_ran number h w op (Stops u) = []

module _ (sizes : Super) where
  abbrev L : Theory
  L = block_calls sizes

  abbrev pub step_of_program : ℕ → Outside → State (block_calls sizes) → P L.M L.Reply → List MadeStep
  step_of_program h x s (Ret reply) = []
  step_of_program h x s (Do op m k) = if_ran s.now h s.world op (L.M.go h x op m s.world)

  abbrev pub step_unless : ℕ → Outside → State (block_calls sizes) → Bool → Run (block_calls sizes) → List MadeStep
  step_unless h x s true r = []
  step_unless h x s false r = step_of_program h x s r.prog

  abbrev pub step_of_call : ℕ → Outside → State (block_calls sizes) → Option (Run (block_calls sizes)) → List MadeStep
  step_of_call h x s None = []
  step_of_call h x s (Some r) = step_unless h x s s.stopped r

  -- what an event makes: a start no step, and a step at most one
  abbrev pub step_of_event : EventOf Call Outside → State (block_calls sizes) → List MadeStep
  step_of_event (Start h call) s = []
  step_of_event (Step h x) s = step_of_call h x s (s.running h)

  -- the steps that were made by these events, the oldest first
  abbrev pub steps_made : List (EventOf Call Outside) → State (block_calls sizes) → List MadeStep
  steps_made [] s = []
  steps_made (e ∷ es) s = step_of_event e s ++ steps_made es (next L e s)

-- ---- what was seen

abbrev pub answered : List MadeStep → List AnsweredStep
answered [] = []
answered (e ∷ es) = e.step ∷ answered es

-- When the free inodes of its block were to be claimed, and none could be, there was a reference to inode n.
pub record IsReferredTo (sizes : Super) (es : List MadeStep) (n : ℕ) : Type 0 where
  pub look : MadeStep
  pub made : In look es
  pub candidates : List ℕ
  pub claims : look.step ≡ (Claim (inode_block sizes.inodestart n) candidates, NoInode)
  pub stands : IsSome (place_in_memory n look.before.tables.entries)

-- The block of inode n was read, and the inode was in use: it has a type there, or there was a reference to it.
pub record IsInUse (sizes : Super) (es : List MadeStep) (n : ℕ) : Type 0 where
  pub block : List ℕ
  pub read : HasRead (answered es) (inode_block sizes.inodestart n) block
  pub used : (is_zero (dinode_at (place_of n) block).kind ≡ false) ⊎ IsReferredTo sizes es n

module _ (sizes : Super) (all : List MadeStep) (f : FinishedCall (block_calls sizes)) where
  -- steps of the run that are the call's own: its hart's, after its start and up to its return
  abbrev pub AreItsOwn : List MadeStep → Type 0
  AreItsOwn es = (e : MadeStep) → In e es → In e all × (e.hart ≡ f.hart) × (f.start < e.number) × (e.number ≤ f.number)

  -- If the call was answered that there is no block, its steps have read the bitmap, and no bit below the size was
  -- clear there.
  abbrev pub SeesNoBlock : Type 0
  SeesNoBlock = f.reply.answer ≡ answers.Full Blocks → (es : List MadeStep) × AreItsOwn es × SawNoBlock sizes (answered es)

  -- If it was answered that there is no inode, they have read the block of each inode of the disk, and each was in
  -- use.
  abbrev pub SeesNoInode : Type 0
  SeesNoInode =
      f.reply.answer ≡ answers.Full DiskInodes
      → (es : List MadeStep) × AreItsOwn es × ((n : ℕ) → 1 ≤ n → n < sizes.ninodes → IsInUse sizes es n)

module _ {D : Type 0} (contents : D → List (List ℕ)) (failures : D → ℕ) where
  -- So it is with each finished call in each history of a run of this world, if the world is as a mount left it.
  abbrev pub CallsLookEverywhere : WorldOf D → Type 0
  CallsLookEverywhere w =
      (device : D) (events : List Event) (came : List Came) (new : HartsOf D) (history : List (EventOf Call Outside))
      → IsMounted contents failures device w → IsHistory contents failures w.sizes w.harts events came new history
      → let now = w.harts.core.log.cache.device in
      let start = fresh (block_calls w.sizes) (first (contents now) (failures now)) in
      (f : FinishedCall (block_calls w.sizes)) → In f (run (block_calls w.sizes) history start).finished
      → SeesNoBlock w.sizes (steps_made w.sizes history start) f × SeesNoInode w.sizes (steps_made w.sizes history start) f
