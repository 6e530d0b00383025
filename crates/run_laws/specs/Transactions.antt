-- A transaction records at most ten different blocks.
use Rattle.std.specs.Prelude.{◌≡◌, ◌↔◌, ℕ, ◌≤◌, ◌==◌, if◌then◌else◌, List, [], ◌∷◌, ◌++◌, length, Option, Some, None, IfSome, IsSome}
use Rattle.run_laws.specs.Vocabulary.{option_map, Call, BLOCKS_OF_A_TRANSACTION, IsMember, with_block, EventOf, fresh, Outside, AnswerBelow as Answer, Join, JoinResult, JoinToWrite, Joins, Leave, Put, RefusesJoin, first, block_calls, Came, Event, HartsOf, IsHistory, IsMounted, WorldOf}
use Rattle.fs_machine.specs.Steps.{Op}
use Rattle.run_laws.specs.Seen.{MadeStep, steps_made}

-- ---- what a transaction has recorded

-- a refused join begins none
abbrev pub after_join : JoinResult → Option (List ℕ) → Option (List ℕ)
after_join (RefusesJoin why) recorded = recorded
after_join (Joins n) recorded = Some []

-- The blocks that a hart's transaction has recorded, each once; None if the hart is in none. So it is after a step of
-- the hart. A transaction begins with no block and ends. Between, it has one more with each that it records, whether
-- the group had that already or not.
abbrev pub recorded_after : (op : Op) → Answer op → Option (List ℕ) → Option (List ℕ)
recorded_after Join a recorded = Some []
recorded_after (JoinToWrite fd) a recorded = after_join a recorded
recorded_after Leave a recorded = None
recorded_after (Put b (Some bytes)) a recorded = option_map (λ blocks. with_block blocks b) recorded
recorded_after op a recorded = recorded

-- a step of another hart changes nothing of it
abbrev pub recorded_with : ℕ → MadeStep → Option (List ℕ) → Option (List ℕ)
recorded_with h e recorded = if e.hart == h then recorded_after e.step.0 e.step.1 recorded else recorded

-- after these steps, the oldest first
abbrev pub recorded_from : ℕ → Option (List ℕ) → List MadeStep → Option (List ℕ)
recorded_from h recorded [] = recorded
recorded_from h recorded (e ∷ es) = recorded_from h (recorded_with h e recorded) es

-- what hart h's transaction has recorded at the end of these steps of a run
abbrev pub recorded_in : ℕ → List MadeStep → Option (List ℕ)
recorded_in h es = recorded_from h None es

-- ---- the law

abbrev pub AreAtMostTen : Option (List ℕ) → Type 0
AreAtMostTen recorded = IfSome recorded (λ blocks. length blocks ≤ BLOCKS_OF_A_TRANSACTION)

-- the steps of a run, the oldest first
module _ (made : List MadeStep) where
  -- after any number of them each hart's transaction has recorded at most ten different blocks
  abbrev pub RecordAtMostTen : Type 0
  RecordAtMostTen = (h : ℕ) (before after : List MadeStep) → made ≡ before ++ after → AreAtMostTen (recorded_in h before)

  -- Those before a step have left a hart in a transaction exactly if the log has it in one as that step is made.
  abbrev pub JoinAndLeaveInTheLog : Type 0
  JoinAndLeaveInTheLog =
      (h : ℕ) (before after : List MadeStep) (e : MadeStep) → made ≡ before ++ e ∷ after
      → IsSome (recorded_in h before) ↔ IsMember e.before.log.members h

  -- no block is recorded but in a transaction
  abbrev pub RecordInTransactions : Type 0
  RecordInTransactions =
      (before after : List MadeStep) (e : MadeStep) (b : ℕ) (bytes : List ℕ) → made ≡ before ++ e ∷ after → e.step.0 ≡ Put b (Some bytes)
      → IsSome (recorded_in e.hart before)

module _ {D : Type 0} (contents : D → List (List ℕ)) (failures : D → ℕ) where
  -- So it is with the steps of each history of a run of this world, if the world is as a mount left it.
  abbrev pub TransactionsRecordAtMostTen : WorldOf D → Type 0
  TransactionsRecordAtMostTen w =
      (device : D) (events : List Event) (came : List Came) (new : HartsOf D) (history : List (EventOf Call Outside))
      → IsMounted contents failures device w → IsHistory contents failures w.sizes w.harts events came new history
      → let now = w.harts.core.log.cache.device in
      let made = steps_made w.sizes history (fresh (block_calls w.sizes) (first (contents now) (failures now))) in
      RecordAtMostTen made × JoinAndLeaveInTheLog made × RecordInTransactions made
