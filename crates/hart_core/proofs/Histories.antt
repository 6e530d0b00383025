-- Runs: one event more; and of a mounted world, the list of tree steps that explains them.
use Rattle.hart_core.proofs.Vocabulary.{◌≡◌, ◌⊎◌, inl, inr, ◌<◌, ◌≤◌, ◌+◌, min, ℕ, zero, Bool, true, false, nat_lt, Some, None, List, [], ◌∷◌, ◌++◌, length, suc, get_or, take, map, ◌==◌, ◌&&◌, refl, sym, ◌∙◌, ap, subst, if◌then◌else◌, arith, All, take_more, length-take, All-head, All-tail, All-cons, All-nil, Super, Version, version_in, sizes_of, tree_in, Reply, Call, put, Trace, TracedCall, call_climbs, Shown, Explains, ends_at, no_calls, trace_from, trace_of, Begun, Replied, Other, is_nothing, TreeData, Theory, Begins, State, EventOf, Start, Step, OutcomeOf, Started, Refused, WasIdle, DidWait, DidRun, DidEnd, DidStop, WasStopped, EventOutcome, AllHonest, asked, all_asked, with_answer, fresh, makes, next, outcomes, run, Code, Plain, PlainMade, PlainHonest, plain_makes, plain_run, plain_outcomes, by_kind, all_by_kind, erase, erase-makes, erase-outcomes, plain_run-more, begun_both, honest_event, Kind, Outside, Passes, Both, began_to, shown_by, shows, HasOneHistory, Refusal, block_moves, first, RunsOn, World, begins, block_calls, block_code, child_of, served_calls, one_history, one_hart, is_code, begun_here, Event, Came, Outcome, event_of, came_of, HartsOf, outcome_of, Rests, events_of, outcomes_of, shown, shown_outcome, all_shown, trace_in, AllAnswer, IsHistory, HasHistory, NoneClimbs, OneHart, OneHistory, WorldOf, calls_of, Makes, Answers}
use Rattle.plain_tree.specs.Explains.{noted}
use Rattle.plain_tree.specs.Widths.{hart_count}
use Rattle.inode_machine.specs.World as above
use Rattle.calls_on_blocks.specs.Layer.{shared_of}
use Rattle.hart_core.specs.declared.events.Event.TheVariants as event
use Rattle.hart_core.specs.declared.events.Came.TheVariants as came
use Rattle.hart_core.specs.declared.outcome.Outcome.TheVariants as outcome
use Rattle.hart_core.specs.declared.outcome.Stop.TheVariants as stop
use Rattle.hart_core.specs.Runs.{IsExplained}
use Rattle.hart_core.proofs.Calming.{IfStarted, AllStarted, Calmed, calmed}
use Rattle.hart_core.proofs.Resting.{mountable, rests_erased}

-- ---- one event more

asked_more : {Outside : Type 0} (es : List (EventOf Call Outside)) (e : EventOf Call Outside) → all_asked (es ++ e ∷ []) ≡ all_asked es ++ asked e ∷ []
asked_more [] e = refl
asked_more (x ∷ es) e = ap (λ (z : List (EventOf Call (Unit {0}))). asked x ∷ z) (asked_more es e)

answer_asked : {Outside : Type 0} (e : EventOf Call (Unit {0})) (x : Outside) → asked (with_answer e x) ≡ e
answer_asked (Start h call) x = refl
answer_asked (Step h u) x = refl

events_more : (es : List Event) (e : Event) → events_of (es ++ e ∷ []) ≡ events_of es ++ event_of e ∷ []
events_more [] e = refl
events_more (x ∷ es) e = ap (λ (z : List (EventOf Call (Unit {0}))). event_of x ∷ z) (events_more es e)

outcomes_more : (cs : List Came) (c : Came) → outcomes_of (cs ++ c ∷ []) ≡ outcomes_of cs ++ came_of c ∷ []
outcomes_more [] c = refl
outcomes_more (x ∷ cs) c = ap (λ (z : List (OutcomeOf Kind Reply Refusal)). came_of x ∷ z) (outcomes_more cs c)

plain_outcomes_more : (L : Theory) (C : Code L) (es : List (EventOf L.Call L.M.Outside)) (e : EventOf L.Call L.M.Outside) (p : Plain L C) → plain_outcomes L C (es ++ e ∷ []) p ≡ plain_outcomes L C es p ++ (plain_makes L C e (plain_run L C es p)).came ∷ []
plain_outcomes_more L C [] e p = refl
plain_outcomes_more L C (x ∷ es) e p = ap (λ (z : List (OutcomeOf C.Kind L.Reply L.Refusal)). (plain_makes L C x p).came ∷ z) (plain_outcomes_more L C es e (plain_makes L C x p).after)

module _ (sizes : Super) where
  answers_more : (es : List (EventOf Call Outside)) (e : EventOf Call Outside) (p : Plain (block_calls sizes) (block_code sizes)) → AllAnswer sizes es p → PlainHonest (block_calls sizes) (block_code sizes) e (plain_run (block_calls sizes) (block_code sizes) es p)
      → AllAnswer sizes (es ++ e ∷ []) p
  answers_more [] e p a b = (b, tt)
  answers_more (x ∷ es) e p a b = (a.0, answers_more es e (plain_makes (block_calls sizes) (block_code sizes) x p).after a.1 b)

module _ {D : Type 0} (contents : D → List (List ℕ)) (failures : D → ℕ) (sizes : Super) where
  pub no_history : (w : HartsOf D) → IsHistory contents failures sizes w [] [] w []
  no_history w = record { asks = refl; answers = tt; comes_to = refl; makes = refl }

  pub history_more : (old mid new : HartsOf D) (events : List Event) (e : Event) (cs : List Came) (c : Came) (history : List (EventOf Call Outside)) (x : Outside) → IsHistory contents failures sizes old events cs mid history
      → Answers contents failures sizes (with_answer (event_of e) x) mid → Makes contents failures sizes (with_answer (event_of e) x) mid (came_of c) new
      → IsHistory contents failures sizes old (events ++ e ∷ []) (cs ++ c ∷ []) new (history ++ with_answer (event_of e) x ∷ [])
  history_more old mid new events e cs c history x h honest makes_ =
      let f : EventOf Call Outside = with_answer (event_of e) x in
      let p : Plain (block_calls sizes) (block_code sizes) = calls_of contents failures sizes old in
      let made : ◌≡◌ {A = PlainMade (block_calls sizes) (block_code sizes)} (plain_makes (block_calls sizes) (block_code sizes) f (plain_run (block_calls sizes) (block_code sizes) history p)) (record { came = came_of c; after = calls_of contents failures sizes new }) =
      ap (plain_makes (block_calls sizes) (block_code sizes) f) h.makes ∙ makes_ in
      record {
        asks = asked_more history f ∙ (λ i. h.asks i ++ answer_asked (event_of e) x i ∷ []) ∙ sym (events_more events e);
        answers = answers_more sizes history f p h.answers (subst (PlainHonest (block_calls sizes) (block_code sizes) f) (sym h.makes) honest);
        comes_to = plain_outcomes_more (block_calls sizes) (block_code sizes) history f p ∙ (λ i. h.comes_to i ++ (made i).came ∷ []) ∙ sym (outcomes_more cs c);
        makes = plain_run-more (block_calls sizes) (block_code sizes) history f p ∙ (λ i. (made i).after);
      }

-- ---- one outcome an event

length_asked : (es : List (EventOf Call Outside)) → length (all_asked es) ≡ length es
length_asked [] = refl
length_asked (e ∷ es) = ap suc (length_asked es)

length_events : (es : List Event) → length (events_of es) ≡ length es
length_events [] = refl
length_events (e ∷ es) = ap suc (length_events es)

length_outcomes : (cs : List Came) → length (outcomes_of cs) ≡ length cs
length_outcomes [] = refl
length_outcomes (c ∷ cs) = ap suc (length_outcomes cs)

length_plain : (L : Theory) (C : Code L) (es : List (EventOf L.Call L.M.Outside)) (p : Plain L C) → length (plain_outcomes L C es p) ≡ length es
length_plain L C [] p = refl
length_plain L C (e ∷ es) p = ap suc (length_plain L C es (plain_makes L C e p).after)

pub long_history : {D : Type 0} (contents : D → List (List ℕ)) (failures : D → ℕ) (sizes : Super) (old new : HartsOf D) (events : List Event) (cs : List Came) (history : List (EventOf Call Outside)) → IsHistory contents failures sizes old events cs new history → length history ≡ length cs
long_history contents failures sizes old new events cs history is =
    sym (length_plain (block_calls sizes) (block_code sizes) history (calls_of contents failures sizes old)) ∙ ap length is.comes_to ∙ length_outcomes cs

pub one_each : {D : Type 0} (contents : D → List (List ℕ)) (failures : D → ℕ) (sizes : Super) (old new : HartsOf D) (events : List Event) (cs : List Came) → HasHistory contents failures sizes old events cs new → length cs ≡ length events
one_each contents failures sizes old new events cs h =
    sym (long_history contents failures sizes old new events cs h.0 h.1) ∙ sym (length_asked h.0) ∙ ap length h.1.asks ∙ length_events events

-- ---- what events show of calls

abbrev pub zipped : List (EventOf Call (Unit {0})) → List (OutcomeOf Kind Reply Refusal) → List Shown
zipped [] os = []
zipped (e ∷ es) [] = []
zipped (e ∷ es) (o ∷ os) = shown_by e o ∷ zipped es os

pub same_start : (h : ℕ) (call : Call) (o : Outcome) → shown_by {Outside = Unit {0}} {Refusal = Refusal} (Start h call) (outcome_of o) ≡ Other
same_start h call outcome.Idle = refl
same_start h call outcome.Waits = refl
same_start h call (outcome.Ran kind) = refl
same_start h call (outcome.Done reply) = refl
same_start h call (outcome.Stopped stop.DeviceFault) = refl
same_start h call (outcome.Stopped stop.Halted) = refl

pub same_step : (h : ℕ) (o : Outcome) → shown_by {Outside = Unit {0}} {Refusal = Refusal} (Step h tt) (outcome_of o) ≡ shown_outcome h o
same_step h outcome.Idle = refl
same_step h outcome.Waits = refl
same_step h (outcome.Ran kind) = refl
same_step h (outcome.Done reply) = refl
same_step h (outcome.Stopped stop.DeviceFault) = refl
same_step h (outcome.Stopped stop.Halted) = refl

pub same_shown : (e : Event) (c : Came) → shown_by (event_of e) (came_of c) ≡ shown e c
same_shown (event.Start h call) came.Started = refl
same_shown (event.Start h call) (came.Refused why) = refl
same_shown (event.Start h call) (came.Stepped o) = same_start h call o
same_shown (event.Step h) came.Started = refl
same_shown (event.Step h) (came.Refused why) = refl
same_shown (event.Step h) (came.Stepped o) = same_step h o

pub all_same : (es : List Event) (cs : List Came) → zipped (events_of es) (outcomes_of cs) ≡ all_shown es cs
all_same [] cs = refl
all_same (e ∷ es) [] = refl
all_same (e ∷ es) (c ∷ cs) = λ i. same_shown e c i ∷ all_same es cs i

module _ (sizes : Super) where
  -- of which kind an operation was isn't shown
  kind_start : (h : ℕ) (call : Call) (o : EventOutcome (block_calls sizes)) → shown_by {Outside = Outside} (Start h call) o ≡ shown_by {Outside = Unit {0}} (Start h call) (by_kind (block_calls sizes) (block_code sizes) o)
  kind_start h call Started = refl
  kind_start h call (Refused why) = refl
  kind_start h call WasIdle = refl
  kind_start h call DidWait = refl
  kind_start h call (DidRun did) = refl
  kind_start h call (DidEnd reply) = refl
  kind_start h call DidStop = refl
  kind_start h call WasStopped = refl

  kind_step : (h : ℕ) (x : Outside) (o : EventOutcome (block_calls sizes)) → shown_by (Step h x) o ≡ shown_by {Outside = Unit {0}} (Step h tt) (by_kind (block_calls sizes) (block_code sizes) o)
  kind_step h x Started = refl
  kind_step h x (Refused why) = refl
  kind_step h x WasIdle = refl
  kind_step h x DidWait = refl
  kind_step h x (DidRun did) = refl
  kind_step h x (DidEnd reply) = refl
  kind_step h x DidStop = refl
  kind_step h x WasStopped = refl

  pub kind_same : (e : EventOf Call Outside) (o : EventOutcome (block_calls sizes)) → shown_by e o ≡ shown_by (asked e) (by_kind (block_calls sizes) (block_code sizes) o)
  kind_same (Start h call) o = kind_start h call o
  kind_same (Step h x) o = kind_step h x o

  shows_are : (es : List (EventOf Call Outside)) (s : State (block_calls sizes)) → shows sizes.version (block_moves sizes) es s ≡ zipped (all_asked es) (all_by_kind (block_calls sizes) (block_code sizes) (outcomes (block_calls sizes) es s))
  shows_are [] s = refl
  shows_are (e ∷ es) s = λ i. kind_same e (makes (block_calls sizes) e s).came i ∷ shows_are es (next (block_calls sizes) e s) i

  pub all_honest : (es : List (EventOf Call Outside)) (s : State (block_calls sizes)) → AllAnswer sizes es (erase (block_calls sizes) (block_code sizes) s) → AllHonest (block_calls sizes) es s
  all_honest [] s a = tt
  all_honest (e ∷ es) s a = (
    honest_event (block_calls sizes) (block_code sizes) (is_code sizes) e s a.0,
    all_honest es (next (block_calls sizes) e s) (subst (λ (x : PlainMade (block_calls sizes) (block_code sizes)). AllAnswer sizes es x.after) (erase-makes (block_calls sizes) (block_code sizes) (is_code sizes) e s) a.1),
  )

  -- there are eight harts
  pub none_past : (call : Call) (busy : ℕ → Bool) (w u : Both World above.World) → (block_calls sizes).start 8 call busy w ≡ Begins u → ⊥
  none_past call busy w u e =
      let t : World = record (w.real) { children = put w.real.children 8 (child_of call) } in
      let b = begun_both (began_to w.seen ((served_calls sizes.version).start 8 call busy w.seen)) (begins sizes 8 call busy w.real) u e in
      let here : nat_lt 8 hart_count ≡ true = (begun_here 8 call busy (shared_of w.real) t u.real b.0).hart in
      cc

-- ---- what is said of a trace's calls holds of each start

module _ (Q : ℕ → Call → Type 0) where
  abbrev Good : TracedCall → Type 0
  Good c = Q c.hart c.call

  before_push : (xs : List TracedCall) (x : TracedCall) → All Good (xs ++ x ∷ []) → All Good xs × Good x
  before_push [] x a = (All-nil Good, All-head Good x [] a)
  before_push (y ∷ ys) x a = let b = before_push ys x (All-tail Good y (ys ++ x ∷ []) a) in (All-cons Good y ys (All-head Good y (ys ++ x ∷ []) a) b.0, b.1)

  before_end : (h : ℕ) (r : Reply) (now : ℕ) (c : TracedCall) → Good (ends_at h r now c) → Good c
  before_end h r now c g = by ((c.hart == h) && is_nothing c.finished) g
    where
      by : (b : Bool) → Good (if b then record c { finished = Some (now, r) } else c) → Good c
      by true g = g
      by false g = g

  before_ends : (h : ℕ) (r : Reply) (now : ℕ) (xs : List TracedCall) → All Good (map (ends_at h r now) xs) → All Good xs
  before_ends h r now [] a = All-nil Good
  before_ends h r now (x ∷ xs) a =
      All-cons Good x xs (before_end h r now x (All-head Good (ends_at h r now x) (map (ends_at h r now) xs) a)) (before_ends h r now xs (All-tail Good (ends_at h r now x) (map (ends_at h r now) xs) a))

  before : (t : Trace) (s : Shown) → All Good (noted t s).calls → All Good t.calls × IfStarted Q s
  before t (Begun h c) a = before_push t.calls (record { hart = h; start = t.events; call = c; finished = None }) a
  before t (Replied h r) a = (before_ends h r t.events t.calls a, tt)
  before t Other a = (a, tt)

  started_in : (ss : List Shown) (t : Trace) → All Good (trace_from t ss).calls → All Good t.calls × AllStarted Q ss
  unfolding trace_from
  started_in [] t a = (a, tt)
  started_in (s ∷ ss) t a = let b = started_in ss (noted t s) a in let c = before t s b.0 in (c.0, (c.1, b.1))

-- ---- what explains a run

module _ {D : Type 0} (contents : D → List (List ℕ)) (failures : D → ℕ) (device : D) (w : HartsOf D) (rests : Rests contents failures device w) where
  abbrev disk : List (List ℕ)
  disk = contents w.core.log.cache.device

  abbrev count : ℕ
  count = failures w.core.log.cache.device

  abbrev L : Theory
  L = block_calls (sizes_of disk)

  abbrev start : State L
  start = fresh L (first disk count)

  module _ (events : List Event) (cs : List Came) (new : HartsOf D) (history : List (EventOf Call Outside)) (is : IsHistory contents failures (sizes_of disk) w events cs new history) (clean : L.M.Clean (run L history start).world) where
    pub shown_is : shows (version_in disk) (block_moves (sizes_of disk)) history start ≡ all_shown events cs
    shown_is =
        shows_are (sizes_of disk) history start
        ∙ (λ i. zipped (is.asks i) ((sym (erase-outcomes L (block_code (sizes_of disk)) (is_code (sizes_of disk)) history start) ∙ ap (plain_outcomes L (block_code (sizes_of disk)) history) (rests_erased contents failures device w rests) ∙ is.comes_to) i))
        ∙ all_same events cs

    honest : AllHonest L history start
    honest = all_honest (sizes_of disk) history start (subst (AllAnswer (sizes_of disk) history) (sym (rests_erased contents failures device w rests)) is.answers)

    pub calm : Calmed (version_in disk) (block_moves (sizes_of disk)) 8 (none_past (sizes_of disk)) Passes history start
    calm = calmed (version_in disk) (block_moves (sizes_of disk)) 8 (none_past (sizes_of disk)) Passes history start refl

    pub runs : RunsOn disk count calm.events
    runs = record { mountable = mountable contents failures device w rests; honest = calm.honest honest; clean = subst (λ (s : State L). L.M.Clean s.world) (sym calm.after) clean }

    pub started : (Q : ℕ → Call → Type 0) → All (λ (c : TracedCall). Q c.hart c.call) (trace_in events cs).calls → AllStarted Q (shows (version_in disk) (block_moves (sizes_of disk)) history start)
    started Q a = subst (AllStarted Q) (sym shown_is) (started_in Q (all_shown events cs) no_calls a).1

    one : NoneClimbs (trace_in events cs) ⊎ OneHart (trace_in events cs) → HasOneHistory (version_in disk) (block_moves (sizes_of disk)) (tree_in disk) (first disk count) calm.events
    one (inl a) = one_history disk count calm.events runs (calm.climbs (started (λ h call. call_climbs call ≡ false) a))
    one (inr a) = one_hart disk count a.0 calm.events runs (calm.alone a.0 (started (λ k call. k ≡ a.0) a.1))

    explained_here : NoneClimbs (trace_in events cs) ⊎ OneHart (trace_in events cs) → IsExplained (version_in disk) (tree_in (contents device)) (trace_in events cs)
    explained_here a =
        let o = one a in (
          o.list,
          subst (λ (base : TreeData). Explains (version_in disk) base (trace_in events cs) o.list) rests.disk.tree
              (subst (λ (ss : List Shown). Explains (version_in disk) (tree_in disk) (trace_of ss) o.list) (calm.shown ∙ shown_is) o.explains),
        )

pub explained : {D : Type 0} (contents : D → List (List ℕ)) (failures : D → ℕ) (w : WorldOf D) (events : List Event) (cs : List Came) (new : HartsOf D) → OneHistory contents failures w events cs new
explained contents failures w events cs new device history mounted is clean a =
    let disk : List (List ℕ) = contents w.harts.core.log.cache.device in
    let same : w.sizes ≡ sizes_of disk = mounted.sizes ∙ sym mounted.rests.disk.sizes in
    subst (λ (v : Version). IsExplained v (tree_in (contents device)) (trace_in events cs)) (ap (λ (s : Super). s.version) (sym same))
    (explained_here contents failures device w.harts mounted.rests events cs new history (subst (λ (s : Super). IsHistory contents failures s w.harts events cs new history) same is)
    (subst (λ (s : Super). (block_calls s).M.Clean (run (block_calls s) history (fresh (block_calls s) (first disk (failures w.harts.core.log.cache.device)))).world) same clean) a)

-- ---- traces

shown_more : (es : List Event) (cs : List Came) (e : Event) (c : Came) → length es ≡ length cs → all_shown (es ++ e ∷ []) (cs ++ c ∷ []) ≡ all_shown es cs ++ shown e c ∷ []
shown_more [] [] e c same = refl
shown_more [] (x ∷ cs) e c same = absurd cc
shown_more (x ∷ es) [] e c same = absurd cc
shown_more (x ∷ es) (y ∷ cs) e c same = ap (λ (z : List Shown). shown x y ∷ z) (shown_more es cs e c (omega (arith, same)))

from_more : (ss : List Shown) (s : Shown) (t : Trace) → trace_from t (ss ++ s ∷ []) ≡ noted (trace_from t ss) s
unfolding trace_from
from_more [] s t = refl
from_more (x ∷ ss) s t = from_more ss s (noted t x)

pub trace_none : trace_in [] [] ≡ no_calls
unfolding trace_from
trace_none = refl

pub trace_more : (es : List Event) (cs : List Came) (e : Event) (c : Came) → length es ≡ length cs → trace_in (es ++ e ∷ []) (cs ++ c ∷ []) ≡ noted (trace_in es cs) (shown e c)
trace_more es cs e c same = ap trace_of (shown_more es cs e c same) ∙ from_more (all_shown es cs) (shown e c) no_calls

take_shown : (n : ℕ) (es : List Event) (cs : List Came) → (length es ≤ n) ⊎ (length cs ≤ n) → all_shown (take n es) (take n cs) ≡ all_shown es cs
take_shown zero [] cs few = refl
take_shown zero (e ∷ es) [] few = refl
take_shown zero (e ∷ es) (c ∷ cs) (inl few) = absurd (omega (arith, few))
take_shown zero (e ∷ es) (c ∷ cs) (inr few) = absurd (omega (arith, few))
take_shown (suc n) [] cs few = refl
take_shown (suc n) (e ∷ es) [] few = refl
take_shown (suc n) (e ∷ es) (c ∷ cs) few = ap (λ (z : List Shown). shown e c ∷ z) (take_shown n es cs (elim few [ inl x ↦ inl (omega (arith, x)) | inr x ↦ inr (omega (arith, x)) ]))

pub trace_all : (n : ℕ) (es : List Event) (cs : List Came) → (length es ≤ n) ⊎ (length cs ≤ n) → trace_in (take n es) (take n cs) ≡ trace_in es cs
trace_all n es cs few = ap trace_of (take_shown n es cs few)

noted_is : (t : Trace) (s : Shown) → noted t s ≡ record { calls = (noted t s).calls; events = t.events + 1 }
noted_is t (Begun h call) = refl
noted_is t (Replied h reply) = refl
noted_is t Other = refl

-- one event more
pub trace_next : (es : List Event) (cs : List Came) (n : ℕ) (e : Event) (c : Came) (calls new : List TracedCall) → n < length es → n < length cs → e ≡ get_or es n e → c ≡ get_or cs n c → trace_in (take n es) (take n cs) ≡ record { calls = calls; events = n }
    → new ≡ (noted (record { calls = calls; events = n }) (shown e c)).calls → trace_in (take (n + 1) es) (take (n + 1) cs) ≡ record { calls = new; events = n + 1 }
trace_next es cs n e c calls new below within is was before step =
    let more_events : take (n + 1) es ≡ take n es ++ e ∷ [] = take_more es n e below ∙ ap (λ (x : Event). take n es ++ x ∷ []) (sym is) in
    let more_outcomes : take (n + 1) cs ≡ take n cs ++ c ∷ [] = take_more cs n c within ∙ ap (λ (x : Came). take n cs ++ x ∷ []) (sym was) in
    let same : length (take n es) ≡ length (take n cs) = omega (arith, length-take n es, length-take n cs, below, within) in
    (λ i. trace_in (more_events i) (more_outcomes i)) ∙ trace_more (take n es) (take n cs) e c same ∙ ap (λ (t : Trace). noted t (shown e c)) before ∙ noted_is (record { calls = calls; events = n }) (shown e c) ∙ (λ i. record { calls = sym step i; events = n + 1 })

shorter : (a b : ℕ) → (a ≤ b) ⊎ (b ≤ a)
shorter zero b = inl (omega arith)
shorter (suc a) zero = inr (omega arith)
shorter (suc a) (suc b) = elim (shorter a b) [ inl x ↦ inl (omega (arith, x)) | inr x ↦ inr (omega (arith, x)) ]

-- no event is left, or no outcome
pub trace_whole : (es : List Event) (cs : List Came) (n end : ℕ) (calls : List TracedCall) → end ≡ min (length es) (length cs) → n ≡ end → trace_in (take n es) (take n cs) ≡ record { calls = calls; events = n } → ◌≡◌ {A = Trace} (record { calls = calls; events = end }) (trace_in es cs)
trace_whole es cs n end calls least at before =
    (λ i. record { calls = calls; events = sym at i }) ∙ sym before ∙ trace_all n es cs (elim (shorter (length es) (length cs)) [ inl x ↦ inl (omega (arith, x, least, at)) | inr x ↦ inr (omega (arith, x, least, at)) ])
