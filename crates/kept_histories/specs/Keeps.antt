-- What a keeper makes of a run's events: the tree, the walks and the list that it keeps go on as each event says.
use Rattle.std.specs.Prelude.{◌≡◌, ◌<◌, ◌-◌, ◌^◌, ℕ, List, [], ◌∷◌, Option, None}
use Rattle.fs_layout.specs.declared.superblock.Super.{Super}
use Rattle.hart_core.specs.Harts.{HartsOf}
use Rattle.hart_core.specs.Starts.{fault_of}
use Rattle.hart_core.specs.Telling.{NotesEvent}
use Rattle.hart_core.specs.declared.events.Came.{Came}
use Rattle.hart_core.specs.declared.events.Came.TheVariants as came
use Rattle.hart_core.specs.declared.events.Event.{Event}
use Rattle.hart_core.specs.declared.events.Event.TheVariants as event
use Rattle.hart_core.specs.declared.outcome.Outcome.{Outcome}
use Rattle.hart_core.specs.declared.outcome.Outcome.TheVariants as outcome
use Rattle.path_walk.specs.declared.asks.Heard.{Heard}
use Rattle.plain_tree.specs.declared.answer.Reply.{Reply}
use Rattle.plain_tree.specs.declared.call.Call.{Call}
use Rattle.tree_histories.specs.Books.{IsBook}
use Rattle.tree_histories.specs.Keeping.{HasStarted, KeptTree, passed, with_hart}
use Rattle.tree_histories.specs.Moving.{HasRun}
use Rattle.tree_laws.specs.History.{History, passes, replies, starts}
use Rattle.tree_laws.specs.Vocabulary.{hart_count}

-- the event shows nothing more of calls
pub record Passes (k k' : KeptTree) : Type 0 where
  pub kept : k' ≡ passed k
  pub book : (b : History) → IsBook k b → IsBook k' (passes b)

-- it starts this call
pub record Starts (k : KeptTree) (h : ℕ) (call : Call) (k' : KeptTree) : Type 0 where
  pub kept : HasStarted k h call k'
  pub book : (b : History) → h < hart_count → k.calls < 2 ^ 64 - 1 → IsBook k b → IsBook k' (starts b h call)

-- it ends with the hart's reply
pub record Replies (k : KeptTree) (h : ℕ) (k' : KeptTree) : Type 0 where
  pub kept : k' ≡ passed (with_hart k h None)
  pub book : (b : History) (r : Reply) → h < hart_count → IsBook k b → IsBook k' (replies b h r)

-- a step of the hart's call ran in it, which heard this
pub record Runs (k : KeptTree) (h : ℕ) (heard : Option Heard) (k' : KeptTree) (Then : KeptTree → KeptTree → Type 0) : Type 0 where
  pub amid : KeptTree
  pub runs : HasRun k h heard amid
  pub ends : Then amid k'

abbrev pub KeepsOutcome : KeptTree → ℕ → Outcome → Option Heard → KeptTree → Type 0
KeepsOutcome k h outcome.Idle heard k' = Passes k k'
KeepsOutcome k h outcome.Waits heard k' = Passes k k'
KeepsOutcome k h (outcome.Ran kind) heard k' = Runs k h heard k' Passes
KeepsOutcome k h (outcome.Done reply) heard k' = Runs k h heard k' (λ m n. Replies m h n)
KeepsOutcome k h (outcome.Stopped stop) heard k' = Passes k k'

abbrev pub KeepsStart : KeptTree → ℕ → Call → Came → KeptTree → Type 0
KeepsStart k h call came.Started k' = fault_of call ≡ None → Starts k h call k'
KeepsStart k h call (came.Refused why) k' = Passes k k'
KeepsStart k h call (came.Stepped outcome) k' = Passes k k'

abbrev pub KeepsStep : KeptTree → ℕ → Came → Option Heard → KeptTree → Type 0
KeepsStep k h came.Started heard k' = Passes k k'
KeepsStep k h (came.Refused why) heard k' = Passes k k'
KeepsStep k h (came.Stepped outcome) heard k' = KeepsOutcome k h outcome heard k'

-- one event, with this outcome
abbrev pub KeepsEvent : KeptTree → Event → Came → Option Heard → KeptTree → Type 0
KeepsEvent k (event.Start h call) c heard k' = KeepsStart k h call c k'
KeepsEvent k (event.Step h) c heard k' = KeepsStep k h c heard k'

module _ {D : Type 0} (contents : D → List (List ℕ)) (failures : D → ℕ) (sizes : Super) where
  -- These events of a run, one after the other, each of which the keeper noted.
  abbrev pub KeepsRun : HartsOf D → KeptTree → List Event → List Came → HartsOf D → KeptTree → Type 0
  KeepsRun old k [] [] new k' = (new ≡ old) × (k' ≡ k)
  KeepsRun old k [] (c ∷ cs) new k' = ⊥
  KeepsRun old k (e ∷ es) [] new k' = ⊥
  KeepsRun old k (e ∷ es) (c ∷ cs) new k' =
      (mid : HartsOf D) × (amid : KeptTree) × NotesEvent contents failures (λ a d x b. KeepsEvent a e d x b) sizes e old k c mid amid
      × KeepsRun mid amid es cs new k'
