-- The harts of a world, as programs of any calls and as those of the calls that are served.
use Rattle.hart_core.proofs.Vocabulary.{◌≡◌, ◌<◌, ◌≤◌, ℕ, zero, suc, Bool, true, false, nat_lt, List, [], ◌∷◌, length, Option, Some, None, refl, sym, ◌∙◌, ap, subst, get_or, get_or-set_same, get_or-set_other, arith, ◌||◌, is_some, slice_get, slice_set, if◌then◌else◌, nat_tests, get_or_past, Super, Reply, Call, put, Ret, Do, OfNext, plain, asks, ExecResult, Waits, Ran, Stops, exec_result_in, or_else, Start, Step, OutcomeOf, Started, Refused, WasIdle, DidWait, DidRun, DidEnd, DidStop, WasStopped, Refuses, Begins, changed, is_called, Plain, PlainMade, MayOf, PlainHonestStep, PlainHonest, SoundPlain, plain_step, plain_unless, plain_prog, plain_tried, plain_moved, plain_start, plain_begun, plain_makes, program_at, sound_may, Kind, Outside, Passes, P, Op, Running, running_of, put_elim, SharedState, child_of, begun_by, if_hart, begin_in, block_calls, block_code, lawful, is_code, Outcome, StartRefused, blocks, code, MayStep, HartsOf, busy_in, children_in, outcome_of, programs_of, Makes, IsWorld, calls_of, fault_of, is_child, others_refusal, refusal_of, reason_of, IsOfBytes}
use Rattle.fs_machine.specs.Steps as steps
use Rattle.fs_machine.specs.Steps.{State}
use Rattle.inode_machine.specs.Theory as calls
use Rattle.hart_core.specs.declared.outcome.Outcome.TheVariants as outcome
use Rattle.hart_core.specs.declared.outcome.Stop.TheVariants as stop
use Rattle.hart_core.specs.declared.starts.StartRefused.TheVariants as start
use Rattle.hart_core.proofs.Stepping.{plain_same}
use Rattle.hart_core.proofs.Refusals.{reason_for, reasons_same, now}
use Rattle.hart_core.proofs.Lasting.{world_more, world_sound}

module _ (sizes : Super) (children : ℕ → Option ℕ) where
  -- the state with these children
  abbrev with_them : State → SharedState
  with_them t = record { state = t; children = children }

  -- the same harts
  abbrev pub as_calls : Plain blocks code → Plain (block_calls sizes) (block_code sizes)
  as_calls p = record { shared = with_them p.shared; stopped = p.stopped; running = p.running }

  abbrev outcome_as : OutcomeOf Kind Reply (Unit {0}) → OutcomeOf Kind Reply calls.Refusal
  outcome_as Started = Started
  outcome_as (Refused why) = Refused calls.Busy
  outcome_as WasIdle = WasIdle
  outcome_as DidWait = DidWait
  outcome_as (DidRun did) = DidRun did
  outcome_as (DidEnd reply) = DidEnd reply
  outcome_as DidStop = DidStop
  outcome_as WasStopped = WasStopped

  abbrev made_as : PlainMade blocks code → PlainMade (block_calls sizes) (block_code sizes)
  made_as m = record { came = outcome_as m.came; after = as_calls m.after }

  -- ---- a step

  moved_as : (h : ℕ) (p : Plain blocks code) (kind : Kind) (q : P Reply) (t : State) → plain_moved (block_calls sizes) (block_code sizes) h (as_calls p) kind q (with_them t) ≡ made_as (plain_moved blocks code h p kind q t)
  moved_as h p kind (Ret reply) t = refl
  moved_as h p kind (Do op m k) t = refl

  tried_as : (h : ℕ) (p : Plain blocks code) (op : steps.Op) (k : steps.Answer op → P Reply) (d : ExecResult (steps.Answer op) State) → plain_tried (block_calls sizes) (block_code sizes) h (as_calls p) op k (exec_result_in with_them d) ≡ made_as (plain_tried blocks code h p op k d)
  tried_as h p op k Waits = refl
  tried_as h p op k (Ran a t) = moved_as h p (steps.kind_of op a) (k a) t
  tried_as h p op k (Stops t) = refl

  prog_as : (h : ℕ) (x : Outside) (p : Plain blocks code) (q : P Reply) → plain_prog (block_calls sizes) (block_code sizes) h x (as_calls p) q ≡ made_as (plain_prog blocks code h x p q)
  prog_as h x p (Ret reply) = refl
  prog_as h x p (Do op m k) = tried_as h p op k (steps.exec h x op p.shared)

  unless_as : (h : ℕ) (x : Outside) (p : Plain blocks code) (b : Bool) (q : P Reply) → plain_unless (block_calls sizes) (block_code sizes) h x (as_calls p) b q ≡ made_as (plain_unless blocks code h x p b q)
  unless_as h x p true q = refl
  unless_as h x p false q = prog_as h x p q

  step_as : (h : ℕ) (x : Outside) (p : Plain blocks code) (o : Option (P Reply)) → plain_step (block_calls sizes) (block_code sizes) h x (as_calls p) o ≡ made_as (plain_step blocks code h x p o)
  step_as h x p None = refl
  step_as h x p (Some q) = unless_as h x p p.stopped q

  same_outcome : (r : Outcome) → outcome_as (outcome_of r) ≡ outcome_of r
  same_outcome outcome.Idle = refl
  same_outcome outcome.Waits = refl
  same_outcome (outcome.Ran kind) = refl
  same_outcome (outcome.Done reply) = refl
  same_outcome (outcome.Stopped stop.DeviceFault) = refl
  same_outcome (outcome.Stopped stop.Halted) = refl

  pub step_in : (h : ℕ) (x : Outside) (p q : Plain blocks code) (r : Outcome) → plain_makes blocks code (Step h x) p ≡ record { came = outcome_of r; after = q }
      → plain_makes (block_calls sizes) (block_code sizes) (Step h x) (as_calls p) ≡ record { came = outcome_of r; after = as_calls q }
  step_in h x p q r makes = step_as h x p (p.running h) ∙ ap made_as makes ∙ (λ i. record { came = same_outcome r i; after = as_calls q })

  -- ---- what is asked and answered in it

  may_next : (h : ℕ) (s : State) (o : Option Op) → OfNext ((block_code sizes).may h) o (with_them s) → OfNext (code.may h) o s
  may_next h s None may = tt
  may_next h s (Some op) may = may

  may_as : (h : ℕ) (s : State) (o : Option (P Reply)) → MayOf (block_calls sizes) (block_code sizes) h (with_them s) o → MayOf blocks code h s o
  may_as h s None may = tt
  may_as h s (Some p) may = may_next h s (asks p) may

  pub may_in : (h : ℕ) (p : Plain blocks code) → SoundPlain (block_calls sizes) (block_code sizes) (as_calls p) → MayStep h p
  may_in h p sound on = may_as h p.shared (p.running h) (sound_may (block_calls sizes) (block_code sizes) (is_code sizes) (lawful sizes) (as_calls p) sound on h)

  honest_next : (h : ℕ) (x : Outside) (s : State) (o : Option Op) → OfNext (λ op v. code.honest h op v x) o s → OfNext (λ op v. (block_code sizes).honest h op v x) o (with_them s)
  honest_next h x s None honest = tt
  honest_next h x s (Some op) honest = honest

  honest_as : (h : ℕ) (x : Outside) (s : State) (b : Bool) (o : Option (P Reply)) → PlainHonestStep blocks code h x s b o → PlainHonestStep (block_calls sizes) (block_code sizes) h x (with_them s) b o
  honest_as h x s true o honest = tt
  honest_as h x s false None honest = tt
  honest_as h x s false (Some p) honest = honest_next h x s (asks p) honest

  pub honest_in : (h : ℕ) (x : Outside) (p : Plain blocks code) → PlainHonest blocks code (Step h x) p → PlainHonest (block_calls sizes) (block_code sizes) (Step h x) (as_calls p)
  honest_in h x p honest = honest_as h x p.shared p.stopped (p.running h) honest

  -- ---- a start

  -- the hart has no call, and this one begins
  begun_blocks : (h : ℕ) (r : P Reply) (p q : Plain blocks code) (o : Option (P Reply)) → o ≡ None → plain_start blocks code h r p o ≡ record { came = Started; after = q } → record p { running = changed p.running h (Some (plain r)) } ≡ q
  begun_blocks h r p q o none makes = ap (λ (x : PlainMade blocks code). x.after) (ap (plain_start blocks code h r p) (sym none) ∙ makes)

-- who has a call
abbrev calling : (ℕ → Option (P Reply)) → ℕ → Bool
calling running j = is_called (running j)

module _ (sizes : Super) (h : ℕ) (call : Call) where
  -- what a start leaves that isn't refused
  abbrev pub with_child : SharedState → SharedState
  with_child s = record s { children = put s.children h (child_of call) }

  begun_calls : (p : Plain (block_calls sizes) (block_code sizes)) (o : Option (P Reply)) → o ≡ None → begin_in h call (calling p.running) p.shared (with_child p.shared) ≡ Begins (with_child p.shared)
      → plain_start (block_calls sizes) (block_code sizes) h call p o ≡ record { came = Started; after = record p { shared = with_child p.shared; running = changed p.running h (Some (plain ((block_calls sizes).program call))) } }
  begun_calls p o none begins = ap (plain_start (block_calls sizes) (block_code sizes) h call p) none ∙ ap (plain_begun (block_calls sizes) (block_code sizes) h call p) begins

  pub start_in : (children : ℕ → Option ℕ) (p q : Plain blocks code) → p.running h ≡ None → begin_in h call (calling p.running) (with_them sizes children p.shared) (with_child (with_them sizes children p.shared)) ≡ Begins (with_child (with_them sizes children p.shared))
      → plain_makes blocks code (Start h (plain ((block_calls sizes).program call))) p ≡ record { came = Started; after = q }
      → plain_makes (block_calls sizes) (block_code sizes) (Start h call) (as_calls sizes children p) ≡ record { came = Started; after = as_calls sizes (put children h (child_of call)) q }
  start_in children p q none begins makes =
      begun_calls (as_calls sizes children p) (p.running h) none begins
      ∙ (λ i. record { came = Started; after = as_calls sizes (put children h (child_of call)) (record p { running = changed p.running h (Some (sym (plain_same (plain ((block_calls sizes).program call))) i)) }) })
      ∙ (λ i. record { came = Started; after = as_calls sizes (put children h (child_of call)) (begun_blocks sizes children h (plain ((block_calls sizes).program call)) p q (p.running h) none makes i) })

  -- it is refused
  refused_by : (p : Plain (block_calls sizes) (block_code sizes)) (o : Option (P Reply)) (why : calls.Refusal) → o ≡ None → begin_in h call (calling p.running) p.shared (with_child p.shared) ≡ Refuses why
      → plain_start (block_calls sizes) (block_code sizes) h call p o ≡ record { came = Refused why; after = p }
  refused_by p o why none refuses = ap (plain_start (block_calls sizes) (block_code sizes) h call p) none ∙ ap (plain_begun (block_calls sizes) (block_code sizes) h call p) refuses

-- ---- what a start finds

running_none : (m : Option Running) → is_some m ≡ false → program_at running_of m ≡ None
running_none None e = refl
running_none (Some m) e = absurd cc

running_is : (o : Option Running) → is_called (program_at running_of o) ≡ is_some o
running_is None = refl
running_is (Some m) = refl

module _ {D : Type 0} (contents : D → List (List ℕ)) (failures : D → ℕ) (sizes : Super) (w : HartsOf D) (long : length w.calls ≡ 8) (h : ℕ) (call : Call) (bytes : fault_of call ≡ None → IsOfBytes call) where
  -- the harts as programs
  abbrev pub here : Plain (block_calls sizes) (block_code sizes)
  here = calls_of contents failures sizes w

  abbrev s : SharedState
  s = now contents failures w

  -- which reason it is, by what is tested
  abbrev tests : Bool → Bool → Option StartRefused → Option StartRefused
  tests hart taken o = if hart then (if taken then Some start.Busy else o) else Some start.NoSuchHart

  abbrev reasons : Option StartRefused
  reasons = or_else (fault_of call) (others_refusal w h call)

  none_past : nat_lt h 8 ≡ false → get_or w.calls h None ≡ None
  none_past e = get_or_past w.calls h None (let q : 8 ≤ h = grind (arith, nat_tests) in omega (arith, q, long))

  -- who has a call, as programs and as machines
  calling_is : calling here.running ≡ busy_in w.calls
  calling_is = λ i j. running_is (get_or w.calls j None) i

  begins_as : (o : Option StartRefused) (hart child : Bool) → nat_lt h 8 ≡ hart → is_child w h ≡ child → reasons ≡ o
      → begin_in h call (calling here.running) s (with_child sizes h call s) ≡ if_hart hart (begun_by (with_child sizes h call s) (or_else (if child then Some calls.Busy else None) (reason_for o)))
  begins_as o hart child q t r =
      ap (λ (busy : ℕ → Bool). begin_in h call busy s (with_child sizes h call s)) calling_is
      ∙ (λ i. if_hart (q i) (begun_by (with_child sizes h call s) (or_else (if t i then Some calls.Busy else None) ((sym (reasons_same contents failures w h call bytes) ∙ ap reason_for r) i))))

  pub start_refused : (why : StartRefused) → refusal_of w h call ≡ Some why → plain_makes (block_calls sizes) (block_code sizes) (Start h call) here ≡ record { came = Refused (reason_of why); after = here }
  start_refused why e = by (nat_lt h 8) (is_some (get_or w.calls h None)) (is_child w h) reasons refl refl refl refl e
    where
      because : StartRefused → Type 0
      because z = plain_makes (block_calls sizes) (block_code sizes) (Start h call) here ≡ record { came = Refused (reason_of z); after = here }

      by : (hart busy child : Bool) (o : Option StartRefused) → nat_lt h 8 ≡ hart → is_some (get_or w.calls h None) ≡ busy → is_child w h ≡ child → reasons ≡ o → tests hart (busy || child) o ≡ Some why → because why
      by false busy child o q r t u e =
          let x : start.NoSuchHart ≡ why = cc in
          subst because x (refused_by sizes h call here (here.running h) calls.NoSuchHart (ap (program_at running_of) (none_past q)) (begins_as o false child q t u))
      by true true child o q r t u e =
          let x : start.Busy ≡ why = cc in
          subst because x (busy (get_or w.calls h None) r)
        where
          busy : (m : Option Running) → is_some m ≡ true → plain_start (block_calls sizes) (block_code sizes) h call here (program_at running_of m) ≡ record { came = Refused calls.Busy; after = here }
          busy None e = absurd cc
          busy (Some m) e = refl
      by true false true o q r t u e =
          let x : start.Busy ≡ why = cc in
          subst because x (refused_by sizes h call here (here.running h) calls.Busy (running_none (get_or w.calls h None) r) (begins_as o true true q t u))
      by true false false (Some v) q r t u e =
          let x : v ≡ why = cc in
          subst because x (refused_by sizes h call here (here.running h) (reason_of v) (running_none (get_or w.calls h None) r) (begins_as (Some v) true false q t u))
      by true false false None q r t u e = absurd cc

  -- nothing is wrong: the hart is one and has no call, and the call begins
  pub record MayStart : Type 0 where
    pub below : h < 8
    pub idle : get_or w.calls h None ≡ None
    pub begins : begin_in h call (calling here.running) s (with_child sizes h call s) ≡ Begins (with_child sizes h call s)

  pub start_allowed : refusal_of w h call ≡ None → MayStart
  start_allowed e = by (nat_lt h 8) (is_some (get_or w.calls h None)) (is_child w h) reasons refl refl refl refl e
    where
      idle : (m : Option Running) → is_some m ≡ false → m ≡ None
      idle None e = refl
      idle (Some m) e = absurd cc

      by : (hart busy child : Bool) (o : Option StartRefused) → nat_lt h 8 ≡ hart → is_some (get_or w.calls h None) ≡ busy → is_child w h ≡ child → reasons ≡ o → tests hart (busy || child) o ≡ None → MayStart
      by false busy child o q r t u e = absurd cc
      by true true child o q r t u e = absurd cc
      by true false true o q r t u e = absurd cc
      by true false false (Some v) q r t u e = absurd cc
      by true false false None q r t u e = record { below = grind (arith, nat_tests); idle = idle (get_or w.calls h None) r; begins = begins_as None true false q t u }

-- ---- a start in code

idle_there : (doing : List (Option Running)) (h : ℕ) → h < length doing → get_or doing h None ≡ None → slice_get doing h ≡ Some None
idle_there [] h lt e = absurd (omega (arith, lt))
idle_there (m ∷ ms) zero lt e = ap (λ (z : Option Running). Some z) e
idle_there (m ∷ ms) (suc h) lt e = idle_there ms h (omega (arith, lt)) e

-- a hart's child is set
children_set : (list : List (Option ℕ)) (h : ℕ) (o : Option ℕ) → h < length list → put (children_in list) h o ≡ children_in (slice_set list h o)
children_set list h o lt = λ i k. each k i
  where
    each : (k : ℕ) → put (children_in list) h o k ≡ children_in (slice_set list h o) k
    each k = put_elim (children_in list) h o k (λ z. z ≡ children_in (slice_set list h o) k)
        (λ e. sym (ap (children_in (slice_set list h o)) e ∙ get_or-set_same list h o None lt))
        (λ ne. sym (get_or-set_other list h k o None ne))

module _ {D : Type 0} (contents : D → List (List ℕ)) (failures : D → ℕ) (sizes : Super) (w : HartsOf D) (long : length w.calls ≡ 8) (h : ℕ) (call : Call) (bytes : fault_of call ≡ None → IsOfBytes call) where
  pub idle_at : refusal_of w h call ≡ None → slice_get w.calls h ≡ Some None
  idle_at e = let m = start_allowed contents failures sizes w long h call bytes e in let lt = m.below in idle_there w.calls h (omega (arith, lt, long)) m.idle

  pub made_start : (new : HartsOf D) → refusal_of w h call ≡ None
      → plain_makes blocks code (Start h (plain ((block_calls sizes).program call))) (programs_of contents failures w) ≡ record { came = Started; after = programs_of contents failures new } → length w.children ≡ 8 → new.children ≡ slice_set w.children h (child_of call)
      → Makes contents failures sizes (Start h call) w Started new
  made_start new e makes eight children =
      let may = start_allowed contents failures sizes w long h call bytes e in
      let lt = may.below in
      start_in sizes h call (children_in w.children) (programs_of contents failures w) (programs_of contents failures new) (ap (program_at running_of) may.idle) may.begins makes
      ∙ (λ i. record { came = Started; after = as_calls sizes ((children_set w.children h (child_of call) (omega (arith, lt, eight)) ∙ ap children_in (sym children)) i) (programs_of contents failures new) })

  pub made_refused : (why : StartRefused) → refusal_of w h call ≡ Some why → Makes contents failures sizes (Start h call) w (Refused (reason_of why)) w
  made_refused why e = start_refused contents failures sizes w long h call bytes why e

  pub world_started : (new : HartsOf D) → IsWorld contents failures sizes w → Makes contents failures sizes (Start h call) w Started new → IsWorld contents failures sizes new
  world_started new is makes = world_more contents failures sizes w is (Start h call) Passes Started new tt makes

-- ---- a step in code

module _ {D : Type 0} (contents : D → List (List ℕ)) (failures : D → ℕ) (sizes : Super) (w : HartsOf D) (is : IsWorld contents failures sizes w) (h : ℕ) where
  pub may_here : MayStep h (programs_of contents failures w)
  may_here = may_in sizes (children_in w.children) h (programs_of contents failures w) (world_sound contents failures sizes w is)

  -- the same children
  as_new : (new : HartsOf D) → new.children ≡ w.children → as_calls sizes (children_in w.children) (programs_of contents failures new) ≡ calls_of contents failures sizes new
  as_new new children = ap (λ (list : List (Option ℕ)). as_calls sizes (children_in list) (programs_of contents failures new)) (sym children)

  pub made_step : (x : Outside) (r : Outcome) (new : HartsOf D) → plain_makes blocks code (Step h x) (programs_of contents failures w) ≡ record { came = outcome_of r; after = programs_of contents failures new } → new.children ≡ w.children
      → Makes contents failures sizes (Step h x) w (outcome_of r) new
  made_step x r new makes children =
      step_in sizes (children_in w.children) h x (programs_of contents failures w) (programs_of contents failures new) r makes
      ∙ (λ i. record { came = outcome_of r; after = as_new new children i })

  pub world_stepped : (x : Outside) (r : Outcome) (new : HartsOf D) → PlainHonest blocks code (Step h x) (programs_of contents failures w) → plain_makes blocks code (Step h x) (programs_of contents failures w) ≡ record { came = outcome_of r; after = programs_of contents failures new }
      → new.children ≡ w.children → IsWorld contents failures sizes new
  world_stepped x r new honest makes children =
      world_more contents failures sizes w is (Step h tt) x (outcome_of r) new (honest_in sizes (children_in w.children) h x (programs_of contents failures w) honest) (made_step x r new makes children)
