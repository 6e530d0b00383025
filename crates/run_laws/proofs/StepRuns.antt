-- What is noted of a run changes nothing of it.
use Rattle.run_laws.proofs.Vocabulary.{◌≡◌, ℕ, suc, Option, Some, None, Bool, true, false, List, [], ◌∷◌, refl, sym, ◌∙◌, ap, subst, nat_eq, if◌then◌else◌, Ret, Do, ExecResult, Waits, Ran, Stops, PartOf as P, OpWithAnswer, own, onto, Theory, Began, Refuses, Begins, Run, PlacedStep, FinishedCall, State, EventOf as Event, Start, Step, EventOutcome, Started, DidRun, DidEnd, Made, changed, is_called as is_some, start_of, placed, told, all_told, moved, tried, step_prog, step_unless, step_run, begun, busy_in, start_run, HonestStep, IsHonest, AllHonest, makes, next, run, outcomes, fresh, Notes, StepNote, entries_of, with_entries, with_steps}

-- steps that are all of this hart
abbrev pub all_by : {A : Type 0} → ℕ → List A → List (ℕ × A)
all_by h [] = []
all_by h (x ∷ xs) = (h, x) ∷ all_by h xs

own_by : {A : Type 0} (j h : ℕ) (xs : List A) → own j (all_by h xs) ≡ (if nat_eq h j then xs else [])
own_by {A} j h xs = at (nat_eq h j) refl xs
  where
    at : (b : Bool) → nat_eq h j ≡ b → (ys : List A) → own j (all_by h ys) ≡ (if b then ys else [])
    at true e [] = refl
    at false e [] = refl
    at true e (y ∷ ys) = rw e (ap (λ (zs : List A). y ∷ zs) (at true e ys))
    at false e (y ∷ ys) = rw e (at false e ys)

module _ (L : Theory) (Written : L.Call → Notes L.M → L.Reply → Type 0)
    (alone_there : (h : ℕ) (op : L.M.Op) (a : L.M.Answer op) (m : Option L.M.Mark) (w : L.M.World) → L.M.places h op a m w ≡ all_by h (own h (L.M.places h op a m w))) where
  abbrev N : Theory
  N = with_steps L Written

  abbrev Noted : Type 0
  Noted = StepNote (OpWithAnswer L.M) L.M.Step

  abbrev steps_alone : Notes L.M → List L.M.Step
  steps_alone [] = []
  steps_alone (e ∷ es) = onto e.made (steps_alone es)

  abbrev call_alone : Run N → Run L
  call_alone r = record { call = r.call; start = r.start; prog = r.prog; count = r.count; done = steps_alone r.done }

  abbrev run_alone : Option (Run N) → Option (Run L)
  run_alone None = None
  run_alone (Some r) = Some (call_alone r)

  abbrev finished_alone : List (FinishedCall N) → List (FinishedCall L)
  finished_alone [] = []
  finished_alone (f ∷ fs) = record { hart = f.hart; call = f.call; start = f.start; number = f.number; count = f.count; reply = f.reply } ∷ finished_alone fs

  abbrev alone : State N → State L
  alone s = record { world = s.world; stopped = s.stopped; running = λ j. run_alone (s.running j); list = entries_of L Written s.list; finished = finished_alone s.finished; now = s.now }

  abbrev made_alone : Made N → Made L
  made_alone m = record { came = m.came; after = alone m.after }

  abbrev step : OpWithAnswer L.M → List L.M.Step → Noted
  step did xs = record { ran = did; made = xs }

  -- ---- an event

  changed_alone : (f : ℕ → Option (Run N)) (g : ℕ → Option (Run L)) (h : ℕ) (x : Option (Run N)) → ((j : ℕ) → run_alone (f j) ≡ g j) → (j : ℕ) → run_alone (changed f h x j) ≡ changed g h (run_alone x) j
  changed_alone f g h x same j = at (nat_eq j h)
    where
      at : (b : Bool) → run_alone (if b then x else f j) ≡ (if b then run_alone x else g j)
      at true = refl
      at false = same j

  done_alone : (h j : ℕ) (did : OpWithAnswer L.M) (xs : List L.M.Step) (es : Notes L.M) → steps_alone (onto (own j ((h, step did xs) ∷ [])) es) ≡ onto (own j (all_by h xs)) (steps_alone es)
  done_alone h j did xs es = at (nat_eq h j) ∙ ap (λ (zs : List L.M.Step). onto zs (steps_alone es)) (sym (own_by j h xs))
    where
      at : (b : Bool) → steps_alone (onto (if b then step did xs ∷ [] else []) es) ≡ onto (if b then xs else []) (steps_alone es)
      at true = refl
      at false = refl

  told_alone : (h j : ℕ) (did : OpWithAnswer L.M) (xs : List L.M.Step) (x : Option (Run N)) → run_alone (told N (own j ((h, step did xs) ∷ [])) x) ≡ told L (own j (all_by h xs)) (run_alone x)
  told_alone h j did xs None = refl
  told_alone h j did xs (Some r) = λ i. Some (record { call = r.call; start = r.start; prog = r.prog; count = r.count; done = done_alone h j did xs r.done i })

  start_alone : (x : Option (Run N)) → start_of N x ≡ start_of L (run_alone x)
  start_alone None = refl
  start_alone (Some r) = refl

  placed_by : (n h : ℕ) (running : ℕ → Option (Run L)) (xs : List L.M.Step) (es : List (PlacedStep L)) → with_entries L Written n h (start_of L (running h)) xs es ≡ placed L n running (all_by h xs) es
  placed_by n h running [] es = refl
  placed_by n h running (x ∷ xs) es = placed_by n h running xs (record { number = n; hart = h; call = start_of L (running h); step = x } ∷ es)

  placed_alone : (n h : ℕ) (s : State N) (did : OpWithAnswer L.M) (xs : List L.M.Step) → entries_of L Written (placed N n s.running ((h, step did xs) ∷ []) s.list) ≡ placed L n (λ j. run_alone (s.running j)) (all_by h xs) (entries_of L Written s.list)
  placed_alone n h s did xs = ap (λ (c : ℕ). with_entries L Written n h c xs (entries_of L Written s.list)) (start_alone (s.running h)) ∙ placed_by n h (λ j. run_alone (s.running j)) xs (entries_of L Written s.list)

  moved_alone : (h : ℕ) (s : State N) (r : Run N) (did : OpWithAnswer L.M) (xs : List L.M.Step) (p : P L.M L.Reply) (w : L.M.World) → made_alone (moved N h s r did ((h, step did xs) ∷ []) p w) ≡ moved L h (alone s) (call_alone r) did (all_by h xs) p w
  moved_alone h s r did xs (Ret reply) w =
      λ i. record {
        came = DidEnd reply;
        after =
            record {
              world = w;
              stopped = s.stopped;
              running = λ j. changed_alone (all_told N ((h, step did xs) ∷ []) s.running) (all_told L (all_by h xs) (λ k. run_alone (s.running k))) h None (λ k. told_alone h k did xs (s.running k)) j i;
              list = placed_alone s.now h s did xs i;
              finished = record { hart = h; call = r.call; start = r.start; number = s.now; count = suc r.count; reply = reply } ∷ finished_alone s.finished;
              now = suc s.now;
            };
      }
  moved_alone h s r did xs (Do op m k) w =
      λ i. record {
        came = DidRun did;
        after =
            record {
              world = w;
              stopped = s.stopped;
              running = λ j. (changed_alone (all_told N ((h, step did xs) ∷ []) s.running) (all_told L (all_by h xs) (λ n. run_alone (s.running n))) h (Some new) (λ n. told_alone h n did xs (s.running n)) j ∙ ap (λ (z : Option (Run L)). changed (all_told L (all_by h xs) (λ n. run_alone (s.running n))) h z j) new_is) i;
              list = placed_alone s.now h s did xs i;
              finished = finished_alone s.finished;
              now = suc s.now;
            };
      }
    where
      new : Run N
      new = record { call = r.call; start = r.start; prog = Do op m k; count = suc r.count; done = onto (own h ((h, step did xs) ∷ [])) r.done }

      new_is : run_alone (Some new) ≡ Some (record { call = r.call; start = r.start; prog = Do op m k; count = suc r.count; done = onto (own h (all_by h xs)) (steps_alone r.done) })
      new_is = λ i. Some (record { call = r.call; start = r.start; prog = Do op m k; count = suc r.count; done = done_alone h h did xs r.done i })

  tried_alone : (h : ℕ) (s : State N) (r : Run N) (op : L.M.Op) (ps : L.M.Answer op → List (ℕ × L.M.Step)) → ((a : L.M.Answer op) → ps a ≡ all_by h (own h (ps a))) → (k : L.M.Answer op → P L.M L.Reply) (d : ExecResult (L.M.Answer op) L.M.World)
      → made_alone (tried N h s r op (λ a. (h, step (op, a) (own h (ps a))) ∷ []) k d) ≡ tried L h (alone s) (call_alone r) op ps k d
  tried_alone h s r op ps by k Waits = refl
  tried_alone h s r op ps by k (Ran a w) = moved_alone h s r (op, a) (own h (ps a)) (k a) w ∙ ap (λ (zs : List (ℕ × L.M.Step)). moved L h (alone s) (call_alone r) (op, a) zs (k a) w) (sym (by a))
  tried_alone h s r op ps by k (Stops w) = refl

  prog_alone : (h : ℕ) (x : L.M.Outside) (s : State N) (r : Run N) (p : P L.M L.Reply) → made_alone (step_prog N h x s r p) ≡ step_prog L h x (alone s) (call_alone r) p
  prog_alone h x s r (Ret reply) = refl
  prog_alone h x s r (Do op m k) = tried_alone h s r op (λ a. L.M.places h op a (m a) s.world) (λ a. alone_there h op a (m a) s.world) k (L.M.go h x op m s.world)

  unless_alone : (h : ℕ) (x : L.M.Outside) (s : State N) (b : Bool) (r : Run N) → made_alone (step_unless N h x s b r) ≡ step_unless L h x (alone s) b (call_alone r)
  unless_alone h x s true r = refl
  unless_alone h x s false r = prog_alone h x s r r.prog

  step_alone : (h : ℕ) (x : L.M.Outside) (s : State N) (r : Option (Run N)) → made_alone (step_run N h x s r) ≡ step_run L h x (alone s) (run_alone r)
  step_alone h x s None = refl
  step_alone h x s (Some r) = unless_alone h x s s.stopped r

  begun_alone : (h : ℕ) (call : L.Call) (s : State N) (b : Began L.Refusal L.M.World) → made_alone (begun N h call s b) ≡ begun L h call (alone s) b
  begun_alone h call s (Refuses why) = refl
  begun_alone h call s (Begins w) =
      λ i. record {
        came = Started;
        after =
            record {
              world = w;
              stopped = s.stopped;
              running = λ j. changed_alone s.running (λ k. run_alone (s.running k)) h (Some (record { call = call; start = s.now; prog = L.program call; count = 0; done = [] })) (λ k. refl) j i;
              list = entries_of L Written s.list;
              finished = finished_alone s.finished;
              now = suc s.now;
            };
      }

  busy_alone : (x : Option (Run N)) → is_some x ≡ is_some (run_alone x)
  busy_alone None = refl
  busy_alone (Some r) = refl

  starts_alone : (h : ℕ) (call : L.Call) (s : State N) (x : Option (Run N)) → made_alone (start_run N h call s x) ≡ start_run L h call (alone s) (run_alone x)
  starts_alone h call s (Some r) = refl
  starts_alone h call s None = begun_alone h call s (L.start h call (busy_in N s) s.world) ∙ (λ i. begun L h call (alone s) (L.start h call (λ j. busy_alone (s.running j) i) s.world))

  makes_alone : (e : Event L.Call L.M.Outside) (s : State N) → made_alone (makes N e s) ≡ makes L e (alone s)
  makes_alone (Start h call) s = starts_alone h call s (s.running h)
  makes_alone (Step h x) s = step_alone h x s (s.running h)

  -- ---- a run

  run_is : (es : List (Event L.Call L.M.Outside)) (s : State N) (t : State L) → alone s ≡ t → alone (run N es s) ≡ run L es t
  run_is [] s t e = e
  run_is (x ∷ es) s t e = run_is es (next N x s) (next L x t) ((λ i. (makes_alone x s i).after) ∙ ap (next L x) e)

  outcomes_is : (es : List (Event L.Call L.M.Outside)) (s : State N) (t : State L) → alone s ≡ t → ◌≡◌ {A = List (EventOutcome L)} (outcomes N es s) (outcomes L es t)
  outcomes_is [] s t e = refl
  outcomes_is (x ∷ es) s t e = λ i. (came_is i).came ∷ outcomes_is es (next N x s) (next L x t) (λ j. (came_is j).after) i
    where
      came_is : made_alone (makes N x s) ≡ makes L x t
      came_is = makes_alone x s ∙ ap (makes L x) e

  honest_step : (h : ℕ) (x : L.M.Outside) (w : L.M.World) (b : Bool) (r : Option (Run N)) → HonestStep L h x w b (run_alone r) → HonestStep N h x w b r
  honest_step h x w true r t = tt
  honest_step h x w false None t = tt
  honest_step h x w false (Some r) t = t

  honest_event : (e : Event L.Call L.M.Outside) (s : State N) → IsHonest L e (alone s) → IsHonest N e s
  honest_event (Start h call) s t = tt
  honest_event (Step h x) s t = honest_step h x s.world s.stopped (s.running h) t

  honest_all : (es : List (Event L.Call L.M.Outside)) (s : State N) (t : State L) → alone s ≡ t → AllHonest L es t → AllHonest N es s
  honest_all [] s t e a = tt
  honest_all (x ∷ es) s t e a = (honest_event x s (subst (IsHonest L x) (sym e) a.0), honest_all es (next N x s) (next L x t) ((λ i. (makes_alone x s i).after) ∙ ap (next L x) e) a.1)

  -- the same events are honest with the notes, have the same outcomes, and make the same operations
  module _ (w : L.M.World) (es : List (Event L.Call L.M.Outside)) where
    pub steps_honest : AllHonest L es (fresh L w) → AllHonest (with_steps L Written) es (fresh (with_steps L Written) w)
    steps_honest a = honest_all es (fresh N w) (fresh L w) refl a

    pub steps_outcomes : outcomes (with_steps L Written) es (fresh (with_steps L Written) w) ≡ outcomes L es (fresh L w)
    steps_outcomes = outcomes_is es (fresh N w) (fresh L w) refl

    pub steps_entries : entries_of L Written (run (with_steps L Written) es (fresh (with_steps L Written) w)).list ≡ (run L es (fresh L w)).list
    steps_entries = λ i. (run_is es (fresh N w) (fresh L w) refl i).list
