-- Runs of calls with their notes have the same outcomes if each call ends with Some of its reply.
use Rattle.run_laws.proofs.Vocabulary.{◌≡◌, inl, inr, ℕ, suc, Option, Some, None, Bool, true, false, List, [], ◌∷◌, refl, sym, ◌∙◌, ap, subst, nat_eq, if◌then◌else◌, Ret, Do, bind, ExecResult, Waits, Ran, Stops, asks, OfNext, PartOf as P, OpWithAnswer, own, onto, Theory, Began, Refuses, Begins, IsBeginning, Run, PlacedStep, FinishedCall, State, EventOf as Event, Start, Step, changed, is_called as is_some, start_of, placed, told, all_told, moved, tried, step_prog, step_unless, step_run, begun, busy_in, start_run, HonestStep, IsHonest, AllHonest, next, run, fresh, In, IsExplained, history, steps_of, Notes, with_steps}
use Rattle.run_laws.proofs.FaithfulCalls.{telling}

module _ (L : Theory) (Written : L.Call → Notes L.M → L.Reply → Type 0) (AreOf : L.Call → Option L.Reply → Notes L.M → Type 0) where
  abbrev N : Theory
  N = with_steps L Written

  abbrev O : Theory
  O = telling L AreOf

  abbrev tells : P L.M L.Reply → P L.M (Option L.Reply)
  tells p = bind p (λ a. Ret (Some a))

  abbrev pub call_there : Run N → Run O
  call_there r = record { call = r.call; start = r.start; prog = tells r.prog; count = r.count; done = r.done }

  abbrev run_there : Option (Run N) → Option (Run O)
  run_there None = None
  run_there (Some r) = Some (call_there r)

  abbrev finished_there : FinishedCall N → FinishedCall O
  finished_there f = record { hart = f.hart; call = f.call; start = f.start; number = f.number; count = f.count; reply = Some f.reply }

  abbrev all_finished : List (FinishedCall N) → List (FinishedCall O)
  all_finished [] = []
  all_finished (f ∷ fs) = finished_there f ∷ all_finished fs

  abbrev entry_there : PlacedStep N → PlacedStep O
  entry_there e = record { number = e.number; hart = e.hart; call = e.call; step = e.step }

  abbrev entries_there : List (PlacedStep N) → List (PlacedStep O)
  entries_there [] = []
  entries_there (e ∷ es) = entry_there e ∷ entries_there es

  abbrev pub there : State N → State O
  there s = record { world = s.world; stopped = s.stopped; running = λ j. run_there (s.running j); list = entries_there s.list; finished = all_finished s.finished; now = s.now }

  -- ---- an event

  changed_there : (f : ℕ → Option (Run N)) (g : ℕ → Option (Run O)) (h : ℕ) (x : Option (Run N)) → ((j : ℕ) → run_there (f j) ≡ g j) → (j : ℕ) → run_there (changed f h x j) ≡ changed g h (run_there x) j
  changed_there f g h x same j = at (nat_eq j h)
    where
      at : (b : Bool) → run_there (if b then x else f j) ≡ (if b then run_there x else g j)
      at true = refl
      at false = same j

  told_there : (xs : List N.M.Step) (x : Option (Run N)) → run_there (told N xs x) ≡ told O xs (run_there x)
  told_there xs None = refl
  told_there xs (Some r) = refl

  start_there : (x : Option (Run N)) → start_of N x ≡ start_of O (run_there x)
  start_there None = refl
  start_there (Some r) = refl

  placed_there : (n : ℕ) (running : ℕ → Option (Run N)) (ps : List (ℕ × N.M.Step)) (list : List (PlacedStep N)) (there_ : List (PlacedStep O)) → entries_there list ≡ there_
      → entries_there (placed N n running ps list) ≡ placed O n (λ j. run_there (running j)) ps there_
  placed_there n running [] list there_ e = e
  placed_there n running (p ∷ ps) list there_ e =
      placed_there n running ps (record { number = n; hart = p.0; call = start_of N (running p.0); step = p.1 } ∷ list) (record { number = n; hart = p.0; call = start_of O (run_there (running p.0)); step = p.1 } ∷ there_)
      (λ i. record { number = n; hart = p.0; call = start_there (running p.0) i; step = p.1 } ∷ e i)

  moved_there : (h : ℕ) (s : State N) (r : Run N) (did : OpWithAnswer L.M) (ps : List (ℕ × N.M.Step)) (p : P L.M L.Reply) (w : L.M.World) → there (moved N h s r did ps p w).after ≡ (moved O h (there s) (call_there r) did ps (tells p) w).after
  moved_there h s r did ps (Ret reply) w =
      λ i. record {
        world = w;
        stopped = s.stopped;
        running = λ j. changed_there (all_told N ps s.running) (all_told O ps (λ k. run_there (s.running k))) h None (λ k. told_there (own k ps) (s.running k)) j i;
        list = placed_there s.now s.running ps s.list (entries_there s.list) refl i;
        finished = record { hart = h; call = r.call; start = r.start; number = s.now; count = suc r.count; reply = Some reply } ∷ all_finished s.finished;
        now = suc s.now;
      }
  moved_there h s r did ps (Do op m k) w =
      λ i. record {
        world = w;
        stopped = s.stopped;
        running = λ j. changed_there (all_told N ps s.running) (all_told O ps (λ n. run_there (s.running n))) h (Some (record { call = r.call; start = r.start; prog = Do op m k; count = suc r.count; done = onto (own h ps) r.done })) (λ n. told_there (own n ps) (s.running n)) j i;
        list = placed_there s.now s.running ps s.list (entries_there s.list) refl i;
        finished = all_finished s.finished;
        now = suc s.now;
      }

  tried_there : (h : ℕ) (s : State N) (r : Run N) (op : L.M.Op) (ps : L.M.Answer op → List (ℕ × N.M.Step)) (k : L.M.Answer op → P L.M L.Reply) (d : ExecResult (L.M.Answer op) L.M.World)
      → there (tried N h s r op ps k d).after ≡ (tried O h (there s) (call_there r) op ps (λ a. tells (k a)) d).after
  tried_there h s r op ps k Waits = refl
  tried_there h s r op ps k (Ran a w) = moved_there h s r (op, a) (ps a) (k a) w
  tried_there h s r op ps k (Stops w) = refl

  prog_there : (h : ℕ) (x : L.M.Outside) (s : State N) (r : Run N) (p : P L.M L.Reply) → there (step_prog N h x s r p).after ≡ (step_prog O h x (there s) (call_there r) (tells p)).after
  prog_there h x s r (Ret reply) = refl
  prog_there h x s r (Do op m k) = tried_there h s r op (λ a. N.M.places h op a (m a) s.world) k (L.M.go h x op m s.world)

  unless_there : (h : ℕ) (x : L.M.Outside) (s : State N) (b : Bool) (r : Run N) → there (step_unless N h x s b r).after ≡ (step_unless O h x (there s) b (call_there r)).after
  unless_there h x s true r = refl
  unless_there h x s false r = prog_there h x s r r.prog

  step_there : (h : ℕ) (x : L.M.Outside) (s : State N) (r : Option (Run N)) → there (step_run N h x s r).after ≡ (step_run O h x (there s) (run_there r)).after
  step_there h x s None = refl
  step_there h x s (Some r) = unless_there h x s s.stopped r

  begun_there : (h : ℕ) (call : L.Call) (s : State N) (b : Began L.Refusal L.M.World) → there (begun N h call s b).after ≡ (begun O h call (there s) b).after
  begun_there h call s (Refuses why) = refl
  begun_there h call s (Begins w) =
      λ i. record {
        world = w;
        stopped = s.stopped;
        running = λ j. changed_there s.running (λ k. run_there (s.running k)) h (Some (record { call = call; start = s.now; prog = L.program call; count = 0; done = [] })) (λ k. refl) j i;
        list = entries_there s.list;
        finished = all_finished s.finished;
        now = suc s.now;
      }

  busy_there : (x : Option (Run N)) → is_some x ≡ is_some (run_there x)
  busy_there None = refl
  busy_there (Some r) = refl

  starts_there : (h : ℕ) (call : L.Call) (s : State N) (x : Option (Run N)) → there (start_run N h call s x).after ≡ (start_run O h call (there s) (run_there x)).after
  starts_there h call s (Some r) = refl
  starts_there h call s None = begun_there h call s (L.start h call (busy_in N s) s.world) ∙ (λ i. (begun O h call (there s) (L.start h call (λ j. busy_there (s.running j) i) s.world)).after)

  next_there : (e : Event L.Call L.M.Outside) (s : State N) → there (next N e s) ≡ next O e (there s)
  next_there (Start h call) s = starts_there h call s (s.running h)
  next_there (Step h x) s = step_there h x s (s.running h)

  -- ---- a run

  run_is : (es : List (Event L.Call L.M.Outside)) (s : State N) (t : State O) → there s ≡ t → there (run N es s) ≡ run O es t
  run_is [] s t e = e
  run_is (x ∷ es) s t e = run_is es (next N x s) (next O x t) (next_there x s ∙ ap (next O x) e)

  honest_next : (h : ℕ) (x : L.M.Outside) (w : L.M.World) (p : P L.M L.Reply) → OfNext (λ op v. L.M.Honest h op v x) (asks p) w → OfNext (λ op v. L.M.Honest h op v x) (asks (tells p)) w
  honest_next h x w (Ret a) t = tt
  honest_next h x w (Do op m k) t = t

  honest_step : (h : ℕ) (x : L.M.Outside) (w : L.M.World) (b : Bool) (r : Option (Run N)) → HonestStep N h x w b r → HonestStep O h x w b (run_there r)
  honest_step h x w true r t = tt
  honest_step h x w false None t = tt
  honest_step h x w false (Some r) t = honest_next h x w r.prog t

  honest_event : (e : Event L.Call L.M.Outside) (s : State N) → IsHonest N e s → IsHonest O e (there s)
  honest_event (Start h call) s t = tt
  honest_event (Step h x) s t = honest_step h x s.world s.stopped (s.running h) t

  honest_all : (es : List (Event L.Call L.M.Outside)) (s : State N) (t : State O) → there s ≡ t → AllHonest N es s → AllHonest O es t
  honest_all [] s t e a = tt
  honest_all (x ∷ es) s t e a = (subst (IsHonest O x) e (honest_event x s a.0), honest_all es (next N x s) (next O x t) (next_there x s ∙ ap (next O x) e) a.1)

  pub retold_honest : (w : L.M.World) (es : List (Event L.Call L.M.Outside)) → AllHonest (with_steps L Written) es (fresh (with_steps L Written) w) → AllHonest (telling L AreOf) es (fresh (telling L AreOf) w)
  retold_honest w es a = honest_all es (fresh N w) (fresh O w) refl a

  -- ---- what is noted

  steps_there : (c : ℕ) (es : List (PlacedStep N)) → ◌≡◌ {A = Notes L.M} (steps_of O c (entries_there es)) (steps_of N c es)
  steps_there c [] = refl
  steps_there c (e ∷ es) = at (nat_eq e.call c) (steps_there c es)
    where
      at : (b : Bool) → ◌≡◌ {A = Notes L.M} (steps_of O c (entries_there es)) (steps_of N c es)
          → ◌≡◌ {A = Notes L.M} (if b then e.step ∷ steps_of O c (entries_there es) else steps_of O c (entries_there es)) (if b then e.step ∷ steps_of N c es else steps_of N c es)
      at true q = ap (λ (zs : Notes L.M). e.step ∷ zs) q
      at false q = q

  entries_onto : (xs ys : List (PlacedStep N)) → entries_there (onto xs ys) ≡ onto (entries_there xs) (entries_there ys)
  entries_onto [] ys = refl
  entries_onto (x ∷ xs) ys = entries_onto xs (x ∷ ys)

  notes_there : (c : ℕ) (s : State N) → ◌≡◌ {A = Notes L.M} (steps_of O c (history O (there s))) (steps_of N c (history N s))
  notes_there c s = ap (λ (zs : List (PlacedStep O)). steps_of O c zs) (sym (entries_onto s.list [])) ∙ steps_there c (history N s)

  in_there : (f : FinishedCall N) (fs : List (FinishedCall N)) → In f fs → In (finished_there f) (all_finished fs)
  in_there f [] i = absurd i
  in_there f (g ∷ fs) (inl e) = inl (ap (λ (z : FinishedCall N). finished_there z) e)
  in_there f (g ∷ fs) (inr i) = inr (in_there f fs i)

  -- so what explains the one run is of the calls of the other
  module _ (w : L.M.World) (base : L.M.Tree) (es : List (Event L.Call L.M.Outside)) (e : IsExplained (telling L AreOf) base (run (telling L AreOf) es (fresh (telling L AreOf) w))) (clean : (v : L.M.World) → L.M.Clean v) where
    abbrev s : State (with_steps L Written)
    s = run (with_steps L Written) es (fresh (with_steps L Written) w)

    explained : IsExplained O base (there s)
    explained = subst (IsExplained O base) (sym (run_is es (fresh N w) (fresh O w) refl)) e

    pub retold_whole : (f : FinishedCall (with_steps L Written)) → In f s.finished → AreOf f.call (Some f.reply) (steps_of (with_steps L Written) f.start (history (with_steps L Written) s))
    retold_whole f i = subst (λ (zs : Notes L.M). AreOf f.call (Some f.reply) zs) (notes_there f.start s) (explained.whole (clean s.world) (finished_there f) (in_there f s.finished i))

    pub retold_begun : (h : ℕ) (r : Run (with_steps L Written)) → s.running h ≡ Some r → IsBeginning (telling L AreOf) r.call (steps_of (with_steps L Written) r.start (history (with_steps L Written) s))
    retold_begun h r is = subst (λ (zs : Notes L.M). IsBeginning O r.call zs) (notes_there r.start s) (explained.begun (clean s.world) h (call_there r) (ap (λ (z : Option (Run N)). run_there z) is))
