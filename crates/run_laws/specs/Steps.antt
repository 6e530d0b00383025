-- How many steps of each call ran, as events and their outcomes show it.
use Rattle.std.specs.Prelude.{ℕ, suc, nat_eq, if◌then◌else◌, List, [], ◌∷◌}
use Rattle.run_laws.specs.Vocabulary.{EventOf as Event, Start, hart_of, Outcome, Started, WasRefused as Refused, WasIdle, DidWait, DidRun, DidEnd, DidStop, WasStopped}

-- How many of the call's steps ran from this event of its hart on, if `later` of them ran after it. It is one more,
-- if a step ran, and one, if that step gave the reply, because it was the last. No other outcome counts: neither a
-- step that waits nor one that is stopped.
abbrev pub with_outcome : {What Reply Refusal : Type 0} → Outcome What Reply Refusal → ℕ → ℕ
with_outcome (DidRun did) later = suc later
with_outcome (DidEnd reply) later = 1
with_outcome Started later = later
with_outcome (Refused why) later = later
with_outcome WasIdle later = later
with_outcome DidWait later = later
with_outcome DidStop later = later
with_outcome WasStopped later = later

-- How many steps of hart h's call ran, up to its reply, or all if it has not replied. These are the events after the
-- call's start, the oldest first, with their outcomes.
abbrev pub steps_ran : {Call Outside What Reply Refusal : Type 0} → ℕ → List (Event Call Outside) → List (Outcome What Reply Refusal) → ℕ
steps_ran h [] outcomes = 0
steps_ran h (e ∷ es) [] = 0
steps_ran h (e ∷ es) (o ∷ os) = if nat_eq (hart_of e) h then with_outcome o (steps_ran h es os) else steps_ran h es os

-- if the event began a call, this is so of the call and of how many of its steps ran
abbrev pub OfBegun : {Call Outside What Reply Refusal : Type 0} → (Call → ℕ → Type 0) → Event Call Outside → Outcome What Reply Refusal
    → List (Event Call Outside) → List (Outcome What Reply Refusal) → Type 0
OfBegun Is (Start h call) Started es os = Is call (steps_ran h es os)
OfBegun Is e o es os = Unit {0}

-- There is one outcome for each event; and of each call that they began, and of how many of its steps ran, this is so.
abbrev pub OfEachCall : {Call Outside What Reply Refusal : Type 0} → (Call → ℕ → Type 0) → List (Event Call Outside)
    → List (Outcome What Reply Refusal) → Type 0
OfEachCall Is [] [] = Unit {0}
OfEachCall Is [] (o ∷ os) = ⊥
OfEachCall Is (e ∷ es) [] = ⊥
OfEachCall Is (e ∷ es) (o ∷ os) = OfBegun Is e o es os × OfEachCall Is es os
