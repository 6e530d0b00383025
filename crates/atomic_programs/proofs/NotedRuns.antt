-- What is noted of a run changes nothing of it.
use Rattle.atomic_programs.proofs.Vocabulary.{◌≡◌, ℕ, suc, Option, Some, None, Bool, true, false, List, [], ◌∷◌, refl, sym, ◌∙◌, ap, subst, nat_eq, if◌then◌else◌, Ret, Do, ExecResult, Waits, Ran, Stops, P, OpWithAnswer, own, onto, Theory, Began, Refuses, Begins, Run, PlacedStep, FinishedCall, State, Event, Start, Step, EventOutcome, Started, DidRun, DidEnd, Made, changed, is_some, start_of, placed, told, all_told, moved, tried, step_prog, step_unless, step_run, begun, busy_in, start_run, HonestStep, IsHonest, AllHonest, makes, next, run, outcomes, fresh, Note, Runs, Places, Notes, noted_steps, with_notes, entry_of, entries_of, SameRuns}

module _ (L : Theory) (Written : L.Call → Notes L.M → L.Reply → Type 0) where
  abbrev N : Theory
  N = with_notes L Written

  abbrev step_of : Note (OpWithAnswer L.M) L.M.Step → List L.M.Step → List L.M.Step
  step_of (Runs e) xs = xs
  step_of (Places x) xs = x ∷ xs

  abbrev steps_alone : Notes L.M → List L.M.Step
  steps_alone [] = []
  steps_alone (e ∷ es) = step_of e (steps_alone es)

  abbrev call_alone : Run N → Run L
  call_alone r = record { call = r.call; start = r.start; prog = r.prog; count = r.count; done = steps_alone r.done }

  abbrev run_alone : Option (Run N) → Option (Run L)
  run_alone None = None
  run_alone (Some r) = Some (call_alone r)

  abbrev finished_alone : List (FinishedCall N) → List (FinishedCall L)
  finished_alone [] = []
  finished_alone (f ∷ fs) = record { hart = f.hart; call = f.call; start = f.start; number = f.number; count = f.count; reply = f.reply } ∷ finished_alone fs

  abbrev alone : State N → State L
  alone s = record { world = s.world; stopped = s.stopped; running = λ j. run_alone (s.running j); list = entries_of L Written s.list; finished = finished_alone s.finished; now = s.now }

  abbrev made_alone : Made N → Made L
  made_alone m = record { came = m.came; after = alone m.after }

  changed_alone : (f : ℕ → Option (Run N)) (g : ℕ → Option (Run L)) (h : ℕ) (x : Option (Run N)) → ((j : ℕ) → run_alone (f j) ≡ g j) → (j : ℕ) → run_alone (changed f h x j) ≡ changed g h (run_alone x) j
  changed_alone f g h x same j = at (nat_eq j h)
    where
      at : (b : Bool) → run_alone (if b then x else f j) ≡ (if b then run_alone x else g j)
      at true = refl
      at false = same j

  steps_onto : (xs es : Notes L.M) → steps_alone (onto xs es) ≡ onto (steps_alone xs) (steps_alone es)
  steps_onto [] es = refl
  steps_onto (Runs e ∷ xs) es = steps_onto xs (Runs e ∷ es)
  steps_onto (Places x ∷ xs) es = steps_onto xs (Places x ∷ es)

  own_alone : (j : ℕ) (ps : List (ℕ × L.M.Step)) → steps_alone (own j (noted_steps ps)) ≡ own j ps
  own_alone j [] = refl
  own_alone j (p ∷ ps) = at (nat_eq p.0 j) (own_alone j ps)
    where
      at : (b : Bool) → steps_alone (own j (noted_steps ps)) ≡ own j ps → steps_alone (if b then Places p.1 ∷ own j (noted_steps ps) else own j (noted_steps ps)) ≡ (if b then p.1 ∷ own j ps else own j ps)
      at true e = ap (λ (zs : List L.M.Step). p.1 ∷ zs) e
      at false e = e

  own_all : (h j : ℕ) (e : OpWithAnswer L.M) (ps : List (ℕ × L.M.Step)) → steps_alone (own j ((h, Runs e) ∷ noted_steps ps)) ≡ own j ps
  own_all h j e ps = at (nat_eq h j)
    where
      at : (b : Bool) → steps_alone (if b then Runs e ∷ own j (noted_steps ps) else own j (noted_steps ps)) ≡ own j ps
      at true = own_alone j ps
      at false = own_alone j ps

  done_alone : (h j : ℕ) (e : OpWithAnswer L.M) (ps : List (ℕ × L.M.Step)) (es : Notes L.M) → steps_alone (onto (own j ((h, Runs e) ∷ noted_steps ps)) es) ≡ onto (own j ps) (steps_alone es)
  done_alone h j e ps es = steps_onto (own j ((h, Runs e) ∷ noted_steps ps)) es ∙ ap (λ (zs : List L.M.Step). onto zs (steps_alone es)) (own_all h j e ps)

  told_alone : (h j : ℕ) (e : OpWithAnswer L.M) (ps : List (ℕ × L.M.Step)) (x : Option (Run N)) → run_alone (told N (own j ((h, Runs e) ∷ noted_steps ps)) x) ≡ told L (own j ps) (run_alone x)
  told_alone h j e ps None = refl
  told_alone h j e ps (Some r) = λ i. Some (record { call = r.call; start = r.start; prog = r.prog; count = r.count; done = done_alone h j e ps r.done i })

  start_alone : (x : Option (Run N)) → start_of N x ≡ start_of L (run_alone x)
  start_alone None = refl
  start_alone (Some r) = refl

  placed_alone : (n : ℕ) (running : ℕ → Option (Run N)) (ps : List (ℕ × L.M.Step)) (list : List (PlacedStep N)) (es : List (PlacedStep L)) → entries_of L Written list ≡ es
      → entries_of L Written (placed N n running (noted_steps ps) list) ≡ placed L n (λ j. run_alone (running j)) ps es
  placed_alone n running [] list es e = e
  placed_alone n running (p ∷ ps) list es e =
      placed_alone n running ps (record { number = n; hart = p.0; call = start_of N (running p.0); step = Places p.1 } ∷ list) (record { number = n; hart = p.0; call = start_of L (run_alone (running p.0)); step = p.1 } ∷ es)
      (λ i. record { number = n; hart = p.0; call = start_alone (running p.0) i; step = p.1 } ∷ e i)

  moved_alone : (h : ℕ) (s : State N) (r : Run N) (did : OpWithAnswer L.M) (ps : List (ℕ × L.M.Step)) (p : P L.M L.Reply) (w : L.M.World) → made_alone (moved N h s r did ((h, Runs did) ∷ noted_steps ps) p w) ≡ moved L h (alone s) (call_alone r) did ps p w
  moved_alone h s r did ps (Ret reply) w =
      λ i. record {
        came = DidEnd reply;
        after =
            record {
              world = w;
              stopped = s.stopped;
              running = λ j. changed_alone (all_told N ((h, Runs did) ∷ noted_steps ps) s.running) (all_told L ps (λ k. run_alone (s.running k))) h None (λ k. told_alone h k did ps (s.running k)) j i;
              list = placed_alone s.now s.running ps (record { number = s.now; hart = h; call = start_of N (s.running h); step = Runs did } ∷ s.list) (entries_of L Written s.list) refl i;
              finished = record { hart = h; call = r.call; start = r.start; number = s.now; count = suc r.count; reply = reply } ∷ finished_alone s.finished;
              now = suc s.now;
            };
      }
  moved_alone h s r did ps (Do op m k) w =
      λ i. record {
        came = DidRun did;
        after =
            record {
              world = w;
              stopped = s.stopped;
              running = λ j. (changed_alone (all_told N ((h, Runs did) ∷ noted_steps ps) s.running) (all_told L ps (λ n. run_alone (s.running n))) h (Some new) (λ n. told_alone h n did ps (s.running n)) j ∙ ap (λ (z : Option (Run L)). changed (all_told L ps (λ n. run_alone (s.running n))) h z j) new_is) i;
              list = placed_alone s.now s.running ps (record { number = s.now; hart = h; call = start_of N (s.running h); step = Runs did } ∷ s.list) (entries_of L Written s.list) refl i;
              finished = finished_alone s.finished;
              now = suc s.now;
            };
      }
    where
      new : Run N
      new = record { call = r.call; start = r.start; prog = Do op m k; count = suc r.count; done = onto (own h ((h, Runs did) ∷ noted_steps ps)) r.done }

      new_is : run_alone (Some new) ≡ Some (record { call = r.call; start = r.start; prog = Do op m k; count = suc r.count; done = onto (own h ps) (steps_alone r.done) })
      new_is = λ i. Some (record { call = r.call; start = r.start; prog = Do op m k; count = suc r.count; done = done_alone h h did ps r.done i })

  tried_alone : (h : ℕ) (s : State N) (r : Run N) (op : L.M.Op) (ps : L.M.Answer op → List (ℕ × L.M.Step)) (k : L.M.Answer op → P L.M L.Reply) (d : ExecResult (L.M.Answer op) L.M.World)
      → made_alone (tried N h s r op (λ a. (h, Runs (op, a)) ∷ noted_steps (ps a)) k d) ≡ tried L h (alone s) (call_alone r) op ps k d
  tried_alone h s r op ps k Waits = refl
  tried_alone h s r op ps k (Ran a w) = moved_alone h s r (op, a) (ps a) (k a) w
  tried_alone h s r op ps k (Stops w) = refl

  prog_alone : (h : ℕ) (x : L.M.Outside) (s : State N) (r : Run N) (p : P L.M L.Reply) → made_alone (step_prog N h x s r p) ≡ step_prog L h x (alone s) (call_alone r) p
  prog_alone h x s r (Ret reply) = refl
  prog_alone h x s r (Do op m k) = tried_alone h s r op (λ a. L.M.places h op a (m a) s.world) k (L.M.go h x op m s.world)

  unless_alone : (h : ℕ) (x : L.M.Outside) (s : State N) (b : Bool) (r : Run N) → made_alone (step_unless N h x s b r) ≡ step_unless L h x (alone s) b (call_alone r)
  unless_alone h x s true r = refl
  unless_alone h x s false r = prog_alone h x s r r.prog

  step_alone : (h : ℕ) (x : L.M.Outside) (s : State N) (r : Option (Run N)) → made_alone (step_run N h x s r) ≡ step_run L h x (alone s) (run_alone r)
  step_alone h x s None = refl
  step_alone h x s (Some r) = unless_alone h x s s.stopped r

  begun_alone : (h : ℕ) (call : L.Call) (s : State N) (b : Began L.Refusal L.M.World) → made_alone (begun N h call s b) ≡ begun L h call (alone s) b
  begun_alone h call s (Refuses why) = refl
  begun_alone h call s (Begins w) =
      λ i. record {
        came = Started;
        after =
            record {
              world = w;
              stopped = s.stopped;
              running = λ j. changed_alone s.running (λ k. run_alone (s.running k)) h (Some (record { call = call; start = s.now; prog = L.program call; count = 0; done = [] })) (λ k. refl) j i;
              list = entries_of L Written s.list;
              finished = finished_alone s.finished;
              now = suc s.now;
            };
      }

  busy_alone : (x : Option (Run N)) → is_some x ≡ is_some (run_alone x)
  busy_alone None = refl
  busy_alone (Some r) = refl

  starts_alone : (h : ℕ) (call : L.Call) (s : State N) (x : Option (Run N)) → made_alone (start_run N h call s x) ≡ start_run L h call (alone s) (run_alone x)
  starts_alone h call s (Some r) = refl
  starts_alone h call s None = begun_alone h call s (L.start h call (busy_in N s) s.world) ∙ (λ i. begun L h call (alone s) (L.start h call (λ j. busy_alone (s.running j) i) s.world))

  makes_alone : (e : Event L.Call L.M.Outside) (s : State N) → made_alone (makes N e s) ≡ makes L e (alone s)
  makes_alone (Start h call) s = starts_alone h call s (s.running h)
  makes_alone (Step h x) s = step_alone h x s (s.running h)

  run_is : (es : List (Event L.Call L.M.Outside)) (s : State N) (t : State L) → alone s ≡ t → alone (run N es s) ≡ run L es t
  run_is [] s t e = e
  run_is (x ∷ es) s t e = run_is es (next N x s) (next L x t) ((λ i. (makes_alone x s i).after) ∙ ap (next L x) e)

  outcomes_is : (es : List (Event L.Call L.M.Outside)) (s : State N) (t : State L) → alone s ≡ t → ◌≡◌ {A = List (EventOutcome L)} (outcomes N es s) (outcomes L es t)
  outcomes_is [] s t e = refl
  outcomes_is (x ∷ es) s t e = λ i. (came_is i).came ∷ outcomes_is es (next N x s) (next L x t) (λ j. (came_is j).after) i
    where
      came_is : made_alone (makes N x s) ≡ makes L x t
      came_is = makes_alone x s ∙ ap (makes L x) e

  honest_step : (h : ℕ) (x : L.M.Outside) (w : L.M.World) (b : Bool) (r : Option (Run N)) → HonestStep L h x w b (run_alone r) → HonestStep N h x w b r
  honest_step h x w true r t = tt
  honest_step h x w false None t = tt
  honest_step h x w false (Some r) t = t

  honest_event : (e : Event L.Call L.M.Outside) (s : State N) → IsHonest L e (alone s) → IsHonest N e s
  honest_event (Start h call) s t = tt
  honest_event (Step h x) s t = honest_step h x s.world s.stopped (s.running h) t

  honest_all : (es : List (Event L.Call L.M.Outside)) (s : State N) (t : State L) → alone s ≡ t → AllHonest L es t → AllHonest N es s
  honest_all [] s t e a = tt
  honest_all (x ∷ es) s t e a = (honest_event x s (subst (IsHonest L x) (sym e) a.0), honest_all es (next N x s) (next L x t) ((λ i. (makes_alone x s i).after) ∙ ap (next L x) e) a.1)

  entries_onto : (xs ys : List (PlacedStep N)) → entries_of L Written (onto xs ys) ≡ onto (entries_of L Written xs) (entries_of L Written ys)
  entries_onto [] ys = refl
  entries_onto (x ∷ xs) ys = entries_onto xs (x ∷ ys) ∙ at x.step
    where
      at : (z : Note (OpWithAnswer L.M) L.M.Step) → onto (entries_of L Written xs) (entry_of L x.number x.hart x.call z (entries_of L Written ys)) ≡ onto (entry_of L x.number x.hart x.call z (entries_of L Written xs)) (entries_of L Written ys)
      at (Runs e) = refl
      at (Places y) = refl

  pub same_runs : (w : L.M.World) → SameRuns L Written w
  same_runs w =
      record {
        honest = λ es a. honest_all es (fresh N w) (fresh L w) refl a;
        outcomes_are = λ es. outcomes_is es (fresh N w) (fresh L w) refl;
        entries_are = λ es. entries_onto (run N es (fresh N w)).list [] ∙ (λ i. onto (run_is es (fresh N w) (fresh L w) refl i).list []);
      }
