-- A run of a mounted world takes few steps.
use Rattle.run_laws.proofs.Vocabulary.{◌≡◌, ℕ, nat_eq, if◌then◌else◌, List, [], ◌∷◌, refl, sym, ◌∙◌, ap, subst, Super, sizes_of, Reply, Call, Theory, State, EventOf, Start, Step, OutcomeOf, Started, WasRefused as Refused, WasIdle, DidWait, DidRun, DidEnd, DidStop, WasStopped, EventOutcome, hart_of, AllHonest, asked, all_asked, fresh, next, outcomes, Code, PlainMade, by_kind, all_by_kind, erase, plain_outcomes, erase-makes, erase-outcomes, honest_event, Outside, first, block_calls, block_code, is_code, Event, HartsOf, Rests, events_of, outcomes_of, AllAnswer, IsHistory, WorldOf, mountable, rests_erased, AreFew, RunsTakeFewSteps, with_outcome, steps_ran, OfBegun, OfEachCall, version_in}
use Rattle.hart_core.specs.declared.events.Came.{Came}
use Rattle.run_laws.proofs.Bounds.{calls_few}

-- ---- the device's answers, and what an operation was, aren't shown

module _ (L : Theory) (C : Code L) where
  same_hart : (e : EventOf L.Call L.M.Outside) → hart_of (asked e) ≡ hart_of e
  same_hart (Start h call) = refl
  same_hart (Step h x) = refl

  same_outcome : (o : EventOutcome L) (later : ℕ) → with_outcome (by_kind L C o) later ≡ with_outcome o later
  same_outcome Started later = refl
  same_outcome (Refused why) later = refl
  same_outcome WasIdle later = refl
  same_outcome DidWait later = refl
  same_outcome (DidRun did) later = refl
  same_outcome (DidEnd reply) later = refl
  same_outcome DidStop later = refl
  same_outcome WasStopped later = refl

  same_steps : (h : ℕ) (es : List (EventOf L.Call L.M.Outside)) (os : List (EventOutcome L)) → steps_ran h (all_asked es) (all_by_kind L C os) ≡ steps_ran h es os
  same_steps h [] os = refl
  same_steps h (e ∷ es) [] = refl
  same_steps h (e ∷ es) (o ∷ os) =
      (λ i. if nat_eq (same_hart e i) h then with_outcome (by_kind L C o) (same_steps h es os i) else same_steps h es os i)
      ∙ ap (λ (z : ℕ). if nat_eq (hart_of e) h then z else steps_ran h es os) (same_outcome o (steps_ran h es os))

  module _ (Is : L.Call → ℕ → Type 0) where
    begun_start : (h : ℕ) (call : L.Call) (o : EventOutcome L) (es : List (EventOf L.Call L.M.Outside)) (os : List (EventOutcome L)) → OfBegun Is (Start h call) o es os → OfBegun Is (Start h call) (by_kind L C o) (all_asked es) (all_by_kind L C os)
    begun_start h call Started es os b = subst (Is call) (sym (same_steps h es os)) b
    begun_start h call (Refused why) es os b = tt
    begun_start h call WasIdle es os b = tt
    begun_start h call DidWait es os b = tt
    begun_start h call (DidRun did) es os b = tt
    begun_start h call (DidEnd reply) es os b = tt
    begun_start h call DidStop es os b = tt
    begun_start h call WasStopped es os b = tt

    begun_as_asked : (e : EventOf L.Call L.M.Outside) (o : EventOutcome L) (es : List (EventOf L.Call L.M.Outside)) (os : List (EventOutcome L)) → OfBegun Is e o es os → OfBegun Is (asked e) (by_kind L C o) (all_asked es) (all_by_kind L C os)
    begun_as_asked (Start h call) o es os b = begun_start h call o es os b
    begun_as_asked (Step h x) o es os b = tt

    as_asked : (es : List (EventOf L.Call L.M.Outside)) (os : List (EventOutcome L)) → OfEachCall Is es os → OfEachCall Is (all_asked es) (all_by_kind L C os)
    as_asked [] [] a = tt
    as_asked [] (o ∷ os) a = absurd a
    as_asked (e ∷ es) [] a = absurd a
    as_asked (e ∷ es) (o ∷ os) a = (begun_as_asked e o es os a.0, as_asked es os a.1)

-- ---- what the code may be answered, the calls may

all_honest : (sizes : Super) (es : List (EventOf Call Outside)) (s : State (block_calls sizes)) → AllAnswer sizes es (erase (block_calls sizes) (block_code sizes) s) → AllHonest (block_calls sizes) es s
all_honest sizes [] s a = tt
all_honest sizes (e ∷ es) s a = (
  honest_event (block_calls sizes) (block_code sizes) (is_code sizes) e s a.0,
  all_honest sizes es (next (block_calls sizes) e s) (subst (λ (x : PlainMade (block_calls sizes) (block_code sizes)). AllAnswer sizes es x.after) (erase-makes (block_calls sizes) (block_code sizes) (is_code sizes) e s) a.1),
)

module _ {D : Type 0} (contents : D → List (List ℕ)) (failures : D → ℕ) (device : D) (w : HartsOf D) (rests : Rests contents failures device w) where
  abbrev disk : List (List ℕ)
  disk = contents w.core.log.cache.device

  abbrev count : ℕ
  count = failures w.core.log.cache.device

  abbrev L : Theory
  L = block_calls (sizes_of disk)

  abbrev C : Code (block_calls (sizes_of disk))
  C = block_code (sizes_of disk)

  abbrev start : State (block_calls (sizes_of disk))
  start = fresh (block_calls (sizes_of disk)) (first disk count)

  history_few : (events : List Event) (came : List Came) (new : HartsOf D) (history : List (EventOf Call Outside)) → IsHistory contents failures (sizes_of disk) w events came new history → OfEachCall (AreFew (version_in disk)) (events_of events) (outcomes_of came)
  history_few events came new history is =
      subst (λ (es : List (EventOf Call (Unit {0}))). OfEachCall (AreFew (version_in disk)) es (outcomes_of came)) is.asks
      (subst (λ (os : List (OutcomeOf _ Reply _)). OfEachCall (AreFew (version_in disk)) (all_asked history) os) same (as_asked L C (AreFew (version_in disk)) history (outcomes L history start) (calls_few disk count history (mountable contents failures device w rests) honest)))
    where
      honest : AllHonest (block_calls (sizes_of disk)) history start
      honest = all_honest (sizes_of disk) history start (subst (AllAnswer (sizes_of disk) history) (sym (rests_erased contents failures device w rests)) is.answers)

      same : all_by_kind L C (outcomes L history start) ≡ outcomes_of came
      same = sym (erase-outcomes L C (is_code (sizes_of disk)) history start) ∙ ap (plain_outcomes L C history) (rests_erased contents failures device w rests) ∙ is.comes_to

pub runs_few : {D : Type 0} (contents : D → List (List ℕ)) (failures : D → ℕ) (w : WorldOf D) → RunsTakeFewSteps contents failures w
runs_few contents failures w device events came new mounted h =
    let same : w.sizes ≡ sizes_of (contents w.harts.core.log.cache.device) = mounted.sizes ∙ sym mounted.rests.disk.sizes in
    let here = subst (λ (s : Super). IsHistory contents failures s w.harts events came new h.0) same h.1 in
    subst (λ (s : Super). OfEachCall (AreFew s.version) (events_of events) (outcomes_of came)) (sym same)
    (history_few contents failures device w.harts mounted.rests events came new h.0 here)
