-- What a stop leaves whole of a run of a mounted world: transactions, and calls that have replied.
use Rattle.hart_core.proofs.Vocabulary.{◌≡◌, ℕ, zero, suc, ◌+◌, ◌<◌, List, [], ◌∷◌, Option, Some, take, sym, ◌∙◌, ap, subst, slice_get, Super, sizes_of, Reply, Call, Marks, joined, IsMarked, Theory, State, EventOf, Start as StartOf, Step as StepOf, OutcomeOf, Started, Refused, WasIdle, DidWait, DidRun, DidEnd, DidStop, WasStopped, EventOutcome, AllHonest, all_asked, fresh, makes, next, outcomes, run, Code, Plain, all_by_kind, by_kind, erase, plain_outcomes, plain_run, erase-outcomes, erase-run, Kind, Outside, Refusal, first, block_calls, block_code, is_code, AreEventsOn, marks_at, BeganCommit, HasReplied, marks_part_none, the_cuts_have_replies, Event, Came, came_of, event_of, HartsOf, Rests, AllAnswer, IsHistory, events_of, outcomes_of, IsMarkedBy, doubt_of, last_of, up_to, calls_of}
use Rattle.hart_core.specs.declared.events.Event.TheVariants as event
use Rattle.hart_core.specs.declared.events.Came.TheVariants as came
use Rattle.hart_core.specs.declared.outcome.Outcome.TheVariants as outcome
use Rattle.hart_core.proofs.Counts.{marked_so, up_to_last}
use Rattle.hart_core.proofs.Histories.{all_honest}
use Rattle.hart_core.proofs.Resting.{mountable, rests_erased}

-- ---- an event of a run, and of its history

event_at : (es : List Event) (i : ℕ) (e : Event) → slice_get es i ≡ Some e → slice_get (events_of es) i ≡ Some (event_of e)
event_at [] i e is = absurd cc
event_at (x ∷ es) zero e is = ap (λ (z : Event). Some (event_of z)) (let same : x ≡ e = cc in same)
event_at (x ∷ es) (suc i) e is = event_at es i e is

outcome_at : (cs : List Came) (i : ℕ) (c : Came) → slice_get cs i ≡ Some c → slice_get (outcomes_of cs) i ≡ Some (came_of c)
outcome_at [] i c is = absurd cc
outcome_at (x ∷ cs) zero c is = ap (λ (z : Came). Some (came_of z)) (let same : x ≡ c = cc in same)
outcome_at (x ∷ cs) (suc i) c is = outcome_at cs i c is

abbrev stepped : ℕ → Outside → Option (EventOf Call Outside)
stepped h x = Some (StepOf h x)

asked_step : (es : List (EventOf Call Outside)) (i h : ℕ) → slice_get (all_asked es) i ≡ Some (StepOf h tt) → (x : Outside) × (slice_get es i ≡ Some (StepOf h x))
asked_step [] i h is = absurd cc
asked_step (StartOf g call ∷ es) zero h is = absurd cc
asked_step (StepOf g x ∷ es) zero h is = (x, ap (λ (k : ℕ). stepped k x) (let same : g ≡ h = cc in same))
asked_step (StartOf g call ∷ es) (suc i) h is = asked_step es i h is
asked_step (StepOf g x ∷ es) (suc i) h is = asked_step es i h is

module _ (L : Theory) (C : Code L) where
  ended : (o : EventOutcome L) (reply : L.Reply) → by_kind L C o ≡ DidEnd reply → o ≡ DidEnd reply
  ended Started reply e = absurd cc
  ended (Refused why) reply e = absurd cc
  ended WasIdle reply e = absurd cc
  ended DidWait reply e = absurd cc
  ended (DidRun did) reply e = absurd cc
  ended (DidEnd a) reply e = ap (λ (z : L.Reply). DidEnd z) (let same : a ≡ reply = cc in same)
  ended DidStop reply e = absurd cc
  ended WasStopped reply e = absurd cc

  came_at : (es : List (EventOf L.Call L.M.Outside)) (j : ℕ) (e : EventOf L.Call L.M.Outside) (s : State L) (reply : L.Reply) → slice_get es j ≡ Some e → slice_get (all_by_kind L C (outcomes L es s)) j ≡ Some (DidEnd reply)
      → (makes L e (run L (take j es) s)).came ≡ DidEnd reply
  came_at [] j e s reply is q = absurd cc
  came_at (x ∷ es) zero e s reply is q =
      let same : x ≡ e = cc in
      subst (λ (z : EventOf L.Call L.M.Outside). (makes L z s).came ≡ DidEnd reply) same (ended (makes L x s).came reply (let same_came : by_kind L C (makes L x s).came ≡ DidEnd reply = cc in same_came))
  came_at (x ∷ es) (suc j) e s reply is q = came_at es j e (next L x s) reply is q

-- ---- a run of a mounted world

module _ {D : Type 0} (contents : D → List (List ℕ)) (failures : D → ℕ) (device : D) (w : HartsOf D) (rests : Rests contents failures device w) (events : List Event) (cs : List Came) (new : HartsOf D) (history : List (EventOf Call Outside))
    (is : IsHistory contents failures (sizes_of (contents w.core.log.cache.device)) w events cs new history) where
  abbrev disk : List (List ℕ)
  disk = contents w.core.log.cache.device

  abbrev count : ℕ
  count = failures w.core.log.cache.device

  abbrev sizes : Super
  sizes = sizes_of disk

  abbrev L : Theory
  L = block_calls sizes

  abbrev C : Code L
  C = block_code sizes

  abbrev start : State L
  start = fresh L (first disk count)

  pub honest_run : AllHonest L history start
  honest_run = all_honest sizes history start (subst (AllAnswer sizes history) (sym (rests_erased contents failures device w rests)) is.answers)

  on : AreEventsOn disk count history
  on = record { mountable = mountable contents failures device w rests; honest = honest_run }

  -- the harts after any of these events are what the code has of the calls' state then
  first_are : (es : List (EventOf Call Outside)) → plain_run L C es (calls_of contents failures sizes w) ≡ erase L C (run L es start)
  first_are es = ap (plain_run L C es) (sym (rests_erased contents failures device w rests)) ∙ erase-run L C (is_code sizes) es start

  pub apart_here : (m : Marks) → marks_at disk count history ≡ m → (k : ℕ) → IsMarkedBy (last_of m.cut) (doubt_of m.doubt) k → joined (plain_run L C (take k history) (calls_of contents failures sizes w)).shared.state.log.members ≡ 0
  apart_here m e k marked =
      ap (λ (p : Plain L C). joined p.shared.state.log.members) (first_are (take k history))
      ∙ marks_part_none disk count history on k (subst (λ (z : Marks). IsMarked z k) (sym e) (marked_so m k marked))

  step_at : (i h : ℕ) → slice_get events i ≡ Some (event.Step h) → (x : Outside) × (slice_get history i ≡ Some (StepOf h x))
  step_at i h e = asked_step history i h (ap (λ (es : List (EventOf Call (Unit {0}))). slice_get es i) is.asks ∙ event_at events i (event.Step h) e)

  pub stored_here : (m : Marks) → marks_at disk count history ≡ m → (i j h : ℕ) (reply : Reply) → slice_get events i ≡ Some (event.Step h) → (marks_at disk count (take (i + 1) history)).begun ≡ i + 1 → i < j
      → slice_get events j ≡ Some (event.Step h) → slice_get cs j ≡ Some (came.Stepped (outcome.Done reply)) → i < up_to (last_of m.cut)
  stored_here m e i j h reply at_i begun lt at_j done =
      let f = step_at i h at_i in
      let g = step_at j h at_j in
      let all : ◌≡◌ {A = List (OutcomeOf Kind Reply Refusal)} (all_by_kind L C (outcomes L history start)) (outcomes_of cs) =
      sym (erase-outcomes L C (is_code sizes) history start) ∙ ap (plain_outcomes L C history) (rests_erased contents failures device w rests) ∙ is.comes_to in
      let begins : BeganCommit disk count history i h = record { outside = f.0; event = f.1; begun = begun } in
      let replies : HasReplied disk count history j h = record {
        outside = g.0;
        reply = reply;
        event = g.1;
        came = came_at L C history j (StepOf h g.0) start reply g.1 (ap (λ (os : List (OutcomeOf Kind Reply Refusal)). slice_get os j) all ∙ outcome_at cs j (came.Stepped (outcome.Done reply)) done);
      } in
      subst (λ (n : ℕ). i < n) (ap (λ (z : Marks). z.cut) e ∙ up_to_last m.cut) (the_cuts_have_replies disk count history on i j h begins lt replies)
