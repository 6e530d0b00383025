-- Starts that were refused, as events that ask for no call: a run goes on as before without them.
use Rattle.hart_core.proofs.Vocabulary.{◌≡◌, ◌≢◌, ℕ, Bool, true, false, Option, Some, None, List, [], ◌∷◌, if◌then◌else◌, refl, sym, ◌∙◌, ap, subst, nat_eq, eqb-true, Version, Call, call_climbs, Shown, Begun, Replied, Other, Marks, Ret, Do, ExecResult, Waits, Ran, Stops, PartOf as P, OpWithAnswer, own, Theory, Began, Refuses, Begins, Run, State, EventOf as Event, Start, Step, Made, Refused, WasIdle, HonestStep, IsHonest, AllHonest, changed, told, all_told, unchanged, moved, tried, step_prog, step_unless, step_run, begun, start_run, makes, next, run, noted, MoveMachine, theory_of, shown_by, climbs_at, StartsBy, Alone, shows}
use Rattle.atomic_programs.specs.Calls.{busy_in}
use Rattle.inode_machine.specs.MoveCalls.{NoneClimbs}

-- what holds of a call that was started
abbrev pub IfStarted : (ℕ → Call → Type 0) → Shown → Type 0
IfStarted Q (Begun h call) = Q h call
IfStarted Q (Replied h reply) = Unit {0}
IfStarted Q Other = Unit {0}

abbrev pub AllStarted : (ℕ → Call → Type 0) → List Shown → Type 0
AllStarted Q [] = Unit {0}
AllStarted Q (s ∷ ss) = IfStarted Q s × AllStarted Q ss

other_changed : {A : Type 0} (f : ℕ → A) (g h : ℕ) (x a : A) → g ≢ h → f g ≡ a → changed f h x g ≡ a
other_changed {A} f g h x a other e = by (nat_eq g h) refl
  where
    by : (b : Bool) → nat_eq g h ≡ b → (if b then x else f g) ≡ a
    by true q = absurd (other (eqb-true g h q))
    by false q = e

-- A hart whose starts are all refused has no call at any time.
module _ (L : Theory) (g : ℕ) (refused : (call : L.Call) (busy : ℕ → Bool) (w u : L.M.World) → L.start g call busy w ≡ Begins u → ⊥) where
  told_none : (xs : List L.M.Step) (r : Option (Run L)) → r ≡ None → told L xs r ≡ None
  told_none xs None e = refl
  told_none xs (Some r) e = absurd cc

  moved_stays : (h : ℕ) (s : State L) (r : Run L) (did : OpWithAnswer L.M) (ps : List (ℕ × L.M.Step)) (p : P L.M L.Reply) (w : L.M.World) → g ≢ h → s.running g ≡ None → (moved L h s r did ps p w).after.running g ≡ None
  moved_stays h s r did ps (Ret reply) w other none = other_changed (all_told L ps s.running) g h None None other (told_none (own g ps) (s.running g) none)
  moved_stays h s r did ps (Do op m k) w other none = other_changed (all_told L ps s.running) g h _ None other (told_none (own g ps) (s.running g) none)

  tried_stays : (h : ℕ) (s : State L) (r : Run L) (op : L.M.Op) (ps : L.M.Answer op → List (ℕ × L.M.Step)) (k : L.M.Answer op → P L.M L.Reply) (d : ExecResult (L.M.Answer op) L.M.World) → g ≢ h → s.running g ≡ None → (tried L h s r op ps k d).after.running g ≡ None
  tried_stays h s r op ps k Waits other none = none
  tried_stays h s r op ps k (Ran a w) other none = moved_stays h s r (op, a) (ps a) (k a) w other none
  tried_stays h s r op ps k (Stops w) other none = none

  prog_stays : (h : ℕ) (x : L.M.Outside) (s : State L) (r : Run L) (p : P L.M L.Reply) → g ≢ h → s.running g ≡ None → (step_prog L h x s r p).after.running g ≡ None
  prog_stays h x s r (Ret reply) other none = none
  prog_stays h x s r (Do op m k) other none = tried_stays h s r op (λ a. L.M.places h op a (m a) s.world) k (L.M.go h x op m s.world) other none

  unless_stays : (h : ℕ) (x : L.M.Outside) (s : State L) (b : Bool) (r : Run L) → g ≢ h → s.running g ≡ None → (step_unless L h x s b r).after.running g ≡ None
  unless_stays h x s true r other none = none
  unless_stays h x s false r other none = prog_stays h x s r r.prog other none

  step_stays : (h : ℕ) (x : L.M.Outside) (s : State L) (o : Option (Run L)) → s.running h ≡ o → s.running g ≡ None → (step_run L h x s o).after.running g ≡ None
  step_stays h x s None e none = none
  step_stays h x s (Some r) e none = unless_stays h x s s.stopped r (λ same. let a : None ≡ Some r = sym none ∙ ap s.running same ∙ e in cc) none

  begun_stays : (h : ℕ) (call : L.Call) (s : State L) (b : Began L.Refusal L.M.World) → L.start h call (busy_in L s) s.world ≡ b → s.running g ≡ None → (begun L h call s b).after.running g ≡ None
  begun_stays h call s (Refuses why) e none = none
  begun_stays h call s (Begins w) e none = other_changed s.running g h _ None (λ same. refused call (busy_in L s) s.world w (subst (λ (z : ℕ). L.start z call (busy_in L s) s.world ≡ Begins w) (sym same) e)) none

  start_stays : (h : ℕ) (call : L.Call) (s : State L) (o : Option (Run L)) → s.running g ≡ None → (start_run L h call s o).after.running g ≡ None
  start_stays h call s None none = begun_stays h call s (L.start h call (busy_in L s) s.world) refl none
  start_stays h call s (Some r) none = none

  pub stays_idle : (e : Event L.Call L.M.Outside) (s : State L) → s.running g ≡ None → (next L e s).running g ≡ None
  stays_idle (Start h call) s none = start_stays h call s (s.running h) none
  stays_idle (Step h x) s none = step_stays h x s (s.running h) refl none

-- In place of a refused start, a step of that hart.
module _ (v : Version) (N : MoveMachine) (g : ℕ) (refused : (call : Call) (busy : ℕ → Bool) (w u : N.World) → N.start g call busy w ≡ Begins u → ⊥) (x : N.Outside) where
  abbrev L : Theory
  L = theory_of v N

  -- an event that asks for a call only if one was started, and leads to the same state as e
  pub record Calms (e : Event Call N.Outside) (s : State L) (made : Made L) : Type 0 where
    pub event : Event Call N.Outside
    pub after : next L event s ≡ made.after
    pub honest : IsHonest L e s → IsHonest L event s
    pub shown : shown_by event (makes L event s).came ≡ shown_by e made.came
    pub climbs : IfStarted (λ h call. call_climbs call ≡ false) (shown_by e made.came) → climbs_at event ≡ false
    pub alone : (h : ℕ) → IfStarted (λ k call. k ≡ h) (shown_by e made.came) → StartsBy h event

  idle_step : (s : State L) → s.running g ≡ None → makes L (Step g x) s ≡ record { came = WasIdle; after = unchanged L s }
  idle_step s none = ap (step_run L g x s) none

  idle_honest : (w : N.World) (b : Bool) (o : Option (Run L)) → o ≡ None → HonestStep L g x w b o
  idle_honest w true o e = tt
  idle_honest w false None e = tt
  idle_honest w false (Some r) e = absurd cc

  calm_refused : (h : ℕ) (call : Call) (why : N.Refusal) (s : State L) → s.running g ≡ None → Calms (Start h call) s (record { came = Refused why; after = unchanged L s })
  calm_refused h call why s none = record {
    event = Step g x;
    after = ap (λ (z : Made L). z.after) (idle_step s none);
    honest = λ a. idle_honest s.world s.stopped (s.running g) none;
    shown = ap (λ (z : Made L). shown_by (Step g x) z.came) (idle_step s none);
    climbs = λ a. refl;
    alone = λ k a. tt;
  }

  calm_begun : (h : ℕ) (call : Call) (s : State L) (b : Began N.Refusal N.World) → s.running g ≡ None → makes L (Start h call) s ≡ begun L h call s b → Calms (Start h call) s (begun L h call s b)
  calm_begun h call s (Refuses why) none e = calm_refused h call why s none
  calm_begun h call s (Begins w) none e = record {
    event = Start h call;
    after = ap (λ (z : Made L). z.after) e;
    honest = λ a. a;
    shown = ap (λ (z : Made L). shown_by {Outside = N.Outside} (Start h call) z.came) e;
    climbs = λ a. a;
    alone = λ k a. a;
  }

  calm_start : (h : ℕ) (call : Call) (s : State L) (o : Option (Run L)) → s.running g ≡ None → makes L (Start h call) s ≡ start_run L h call s o → Calms (Start h call) s (start_run L h call s o)
  calm_start h call s None none e = calm_begun h call s (L.start h call (busy_in L s) s.world) none e
  calm_start h call s (Some r) none e = calm_refused h call N.busy s none

  calm : (e : Event Call N.Outside) (s : State L) → s.running g ≡ None → Calms e s (makes L e s)
  calm (Start h call) s none = calm_start h call s (s.running h) none refl
  calm (Step h y) s none = record { event = Step h y; after = refl; honest = λ a. a; shown = refl; climbs = λ a. refl; alone = λ k a. tt }

  -- the same of a list
  pub record Calmed (es : List (Event Call N.Outside)) (s : State L) : Type 0 where
    pub events : List (Event Call N.Outside)
    pub after : run L events s ≡ run L es s
    pub honest : AllHonest L es s → AllHonest L events s
    pub shown : shows v N events s ≡ shows v N es s
    pub climbs : AllStarted (λ h call. call_climbs call ≡ false) (shows v N es s) → NoneClimbs events
    pub alone : (h : ℕ) → AllStarted (λ k call. k ≡ h) (shows v N es s) → Alone h events
    pub notes : (note : State L → State L → Marks → Marks) (m : Marks) → noted L note events s m ≡ noted L note es s m

  pub calmed : (es : List (Event Call N.Outside)) (s : State L) → s.running g ≡ None → Calmed es s
  calmed [] s none = record { events = []; after = refl; honest = λ a. a; shown = refl; climbs = λ a. tt; alone = λ h a. tt; notes = λ note m. refl }
  calmed (e ∷ es) s none =
      let c : Calms e s (makes L e s) = calm e s none in
      let rest : Calmed es (next L e s) = calmed es (next L e s) (stays_idle L g refused e s none) in
      record {
        events = c.event ∷ rest.events;
        after = ap (run L rest.events) c.after ∙ rest.after;
        honest = λ a. (c.honest a.0, subst (AllHonest L rest.events) (sym c.after) (rest.honest a.1));
        shown = (λ i. c.shown i ∷ shows v N rest.events (c.after i)) ∙ ap (λ (z : List Shown). shown_by e (makes L e s).came ∷ z) rest.shown;
        climbs = λ a. (c.climbs a.0, rest.climbs a.1);
        alone = λ h a. (c.alone h a.0, rest.alone h a.1);
        notes = λ note m. (λ i. noted L note rest.events (c.after i) (note s (c.after i) m)) ∙ rest.notes note (note s (next L e s) m);
      }
