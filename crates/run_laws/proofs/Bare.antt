-- The result of a run doesn't depend on the history that is kept beside it: the state without it, and what an event
-- makes of that.
use Rattle.run_laws.proofs.Vocabulary.{◌≡◌, ℕ, suc, nat_eq, if◌then◌else◌, Bool, true, false, Option, Some, None, List, [], refl, ◌∙◌, ap, Prog, Ret, Do, asks, OfNext, ExecResult, Waits, Ran, Stops, PartOf as P, OpWithAnswer, own, onto, Theory, Began, Refuses, Begins, Run, State, EventOf as Event, Start, Step, OutcomeOf as Outcome, Started, WasRefused as Refused, WasIdle, DidWait, DidRun, DidEnd, DidStop, WasStopped, Made, HonestStep, IsHonest, all_told, begun, busy_in, changed, is_called as is_some, makes, moved, start_run, step_prog, step_run, step_unless, told, tried}

pub record Bare (World Program : Type 0) : Type 0 where
  pub world : World
  pub stopped : Bool
  pub running : ℕ → Option Program

pub record BareMade (World Program What Reply Refusal : Type 0) : Type 0 where
  pub came : Outcome What Reply Refusal
  pub after : Bare World Program

module _ {Op : Type 0} {Answer : Op → Type 0} {Mark World Outside Call Reply Refusal : Type 0} (go : ℕ → Outside → (op : Op) → (Answer op → Option Mark) → World → ExecResult (Answer op) World) (start : ℕ → Call → (ℕ → Bool) → World → Began Refusal World) (busy : Refusal)
    (program : Call → Prog Op Answer Mark Reply) where
  abbrev B : Type 0
  B = Bare World (Prog Op Answer Mark Reply)

  abbrev M : Type 0
  M = BareMade World (Prog Op Answer Mark Reply) ((op : Op) × Answer op) Reply Refusal

  abbrev bare_moved : ℕ → B → (op : Op) × Answer op → Prog Op Answer Mark Reply → World → M
  bare_moved h b did (Ret reply) w = record { came = DidEnd reply; after = record { world = w; stopped = b.stopped; running = changed b.running h None } }
  bare_moved h b did (Do op m k) w = record { came = DidRun did; after = record { world = w; stopped = b.stopped; running = changed b.running h (Some (Do op m k)) } }

  abbrev bare_tried : ℕ → B → (op : Op) → (Answer op → Prog Op Answer Mark Reply) → ExecResult (Answer op) World → M
  bare_tried h b op k Waits = record { came = DidWait; after = b }
  bare_tried h b op k (Ran a w) = bare_moved h b (op, a) (k a) w
  bare_tried h b op k (Stops w) = record { came = DidStop; after = record { world = w; stopped = true; running = b.running } }

  abbrev bare_prog : ℕ → Outside → B → Prog Op Answer Mark Reply → M
  bare_prog h x b (Ret reply) = record { came = WasIdle; after = b }
  bare_prog h x b (Do op m k) = bare_tried h b op k (go h x op m b.world)

  abbrev bare_unless : ℕ → Outside → B → Bool → Prog Op Answer Mark Reply → M
  bare_unless h x b true p = record { came = WasStopped; after = b }
  bare_unless h x b false p = bare_prog h x b p

  abbrev bare_step : ℕ → Outside → B → Option (Prog Op Answer Mark Reply) → M
  bare_step h x b None = record { came = WasIdle; after = b }
  bare_step h x b (Some p) = bare_unless h x b b.stopped p

  abbrev bare_begun : ℕ → Call → B → Began Refusal World → M
  bare_begun h call b (Refuses why) = record { came = Refused why; after = b }
  bare_begun h call b (Begins w) = record { came = Started; after = record { world = w; stopped = b.stopped; running = changed b.running h (Some (program call)) } }

  abbrev bare_start : ℕ → Call → B → Option (Prog Op Answer Mark Reply) → M
  bare_start h call b (Some p) = record { came = Refused busy; after = b }
  bare_start h call b None = bare_begun h call b (start h call (λ j. is_some (b.running j)) b.world)

  abbrev pub bare_makes : Event Call Outside → B → M
  bare_makes (Start h call) b = bare_start h call b (b.running h)
  bare_makes (Step h x) b = bare_step h x b (b.running h)

module _ {Op : Type 0} {Answer : Op → Type 0} {Mark World Outside Reply : Type 0} (Honest : ℕ → Op → World → Outside → Type 0) where
  abbrev HonestBareStep : ℕ → Outside → World → Bool → Option (Prog Op Answer Mark Reply) → Type 0
  HonestBareStep h x w true p = Unit {0}
  HonestBareStep h x w false None = Unit {0}
  HonestBareStep h x w false (Some p) = OfNext (λ op v. Honest h op v x) (asks p) w

  abbrev pub HonestBare : {Call : Type 0} → Event Call Outside → Bare World (Prog Op Answer Mark Reply) → Type 0
  HonestBare (Start h call) b = Unit {0}
  HonestBare (Step h x) b = HonestBareStep h x b.world b.stopped (b.running h)

-- ---- of a state

module _ (L : Theory) where
  abbrev prog_in : Option (Run L) → Option (P L.M L.Reply)
  prog_in None = None
  prog_in (Some r) = Some r.prog

  abbrev pub bare : State L → Bare L.M.World (P L.M L.Reply)
  bare s = record { world = s.world; stopped = s.stopped; running = λ h. prog_in (s.running h) }

  abbrev pub bare_made : Made L → BareMade L.M.World (P L.M L.Reply) (OpWithAnswer L.M) L.Reply L.Refusal
  bare_made m = record { came = m.came; after = bare m.after }

  told_in : (xs : List L.M.Step) (x : Option (Run L)) → prog_in (told L xs x) ≡ prog_in x
  told_in xs None = refl
  told_in xs (Some r) = refl

  changed_in : (ps : List (ℕ × L.M.Step)) (f : ℕ → Option (Run L)) (h : ℕ) (x : Option (Run L)) (k : ℕ) → prog_in (changed (all_told L ps f) h x k) ≡ changed (λ j. prog_in (f j)) h (prog_in x) k
  changed_in ps f h x k = at (nat_eq k h)
    where
      at : (b : Bool) → prog_in (if b then x else told L (own k ps) (f k)) ≡ (if b then prog_in x else prog_in (f k))
      at true = refl
      at false = told_in (own k ps) (f k)

  set_in : (f : ℕ → Option (Run L)) (h : ℕ) (x : Option (Run L)) (k : ℕ) → prog_in (changed f h x k) ≡ changed (λ j. prog_in (f j)) h (prog_in x) k
  set_in f h x k = at (nat_eq k h)
    where
      at : (b : Bool) → prog_in (if b then x else f k) ≡ (if b then prog_in x else prog_in (f k))
      at true = refl
      at false = refl

  moved_bare : (h : ℕ) (s : State L) (r : Run L) (did : OpWithAnswer L.M) (ps : List (ℕ × L.M.Step)) (p : P L.M L.Reply) (w : L.M.World) → bare_made (moved L h s r did ps p w) ≡ bare_moved L.M.go L.start L.busy L.program h (bare s) did p w
  moved_bare h s r did ps (Ret reply) w = λ i. record { came = DidEnd reply; after = record { world = w; stopped = s.stopped; running = λ k. changed_in ps s.running h None k i } }
  moved_bare h s r did ps (Do op m k) w =
      λ i. record {
        came = DidRun did;
        after = record { world = w; stopped = s.stopped; running = λ j. changed_in ps s.running h (Some (record { call = r.call; start = r.start; prog = Do op m k; count = suc r.count; done = onto (own h ps) r.done })) j i };
      }

  tried_bare : (h : ℕ) (s : State L) (r : Run L) (op : L.M.Op) (ps : L.M.Answer op → List (ℕ × L.M.Step)) (k : L.M.Answer op → P L.M L.Reply) (d : ExecResult (L.M.Answer op) L.M.World)
      → bare_made (tried L h s r op ps k d) ≡ bare_tried L.M.go L.start L.busy L.program h (bare s) op k d
  tried_bare h s r op ps k Waits = refl
  tried_bare h s r op ps k (Ran a w) = moved_bare h s r (op, a) (ps a) (k a) w
  tried_bare h s r op ps k (Stops w) = refl

  prog_bare : (h : ℕ) (x : L.M.Outside) (s : State L) (r : Run L) (p : P L.M L.Reply) → bare_made (step_prog L h x s r p) ≡ bare_prog L.M.go L.start L.busy L.program h x (bare s) p
  prog_bare h x s r (Ret reply) = refl
  prog_bare h x s r (Do op m k) = tried_bare h s r op (λ a. L.M.places h op a (m a) s.world) k (L.M.go h x op m s.world)

  unless_bare : (h : ℕ) (x : L.M.Outside) (s : State L) (b : Bool) (r : Run L) → bare_made (step_unless L h x s b r) ≡ bare_unless L.M.go L.start L.busy L.program h x (bare s) b r.prog
  unless_bare h x s true r = refl
  unless_bare h x s false r = prog_bare h x s r r.prog

  step_bare : (h : ℕ) (x : L.M.Outside) (s : State L) (o : Option (Run L)) → bare_made (step_run L h x s o) ≡ bare_step L.M.go L.start L.busy L.program h x (bare s) (prog_in o)
  step_bare h x s None = refl
  step_bare h x s (Some r) = unless_bare h x s s.stopped r

  begun_bare : (h : ℕ) (call : L.Call) (s : State L) (b : Began L.Refusal L.M.World) → bare_made (begun L h call s b) ≡ bare_begun L.M.go L.start L.busy L.program h call (bare s) b
  begun_bare h call s (Refuses why) = refl
  begun_bare h call s (Begins w) =
      λ i. record {
        came = Started;
        after = record { world = w; stopped = s.stopped; running = λ k. set_in s.running h (Some (record { call = call; start = s.now; prog = L.program call; count = 0; done = [] })) k i };
      }

  busy_bare : (s : State L) → busy_in L s ≡ (λ j. is_some (prog_in (s.running j)))
  busy_bare s = λ i j. at (s.running j) i
    where
      at : (x : Option (Run L)) → is_some x ≡ is_some (prog_in x)
      at None = refl
      at (Some r) = refl

  start_bare : (h : ℕ) (call : L.Call) (s : State L) (o : Option (Run L)) → bare_made (start_run L h call s o) ≡ bare_start L.M.go L.start L.busy L.program h call (bare s) (prog_in o)
  start_bare h call s (Some r) = refl
  start_bare h call s None =
      begun_bare h call s (L.start h call (busy_in L s) s.world)
      ∙ ap (λ (f : ℕ → Bool). bare_begun L.M.go L.start L.busy L.program h call (bare s) (L.start h call f s.world)) (busy_bare s)

  -- an event makes of the bare state what it makes with its history
  pub makes_bare : (e : Event L.Call L.M.Outside) (s : State L) → bare_made (makes L e s) ≡ bare_makes L.M.go L.start L.busy L.program e (bare s)
  makes_bare (Start h call) s = start_bare h call s (s.running h)
  makes_bare (Step h x) s = step_bare h x s (s.running h)

  honest_in : (h : ℕ) (x : L.M.Outside) (w : L.M.World) (b : Bool) (o : Option (Run L)) → HonestStep L h x w b o → HonestBareStep L.M.Honest h x w b (prog_in o)
  honest_in h x w true o t = tt
  honest_in h x w false None t = tt
  honest_in h x w false (Some r) t = t

  honest_out : (h : ℕ) (x : L.M.Outside) (w : L.M.World) (b : Bool) (o : Option (Run L)) → HonestBareStep L.M.Honest h x w b (prog_in o) → HonestStep L h x w b o
  honest_out h x w true o t = tt
  honest_out h x w false None t = tt
  honest_out h x w false (Some r) t = t

  pub honest_bare : (e : Event L.Call L.M.Outside) (s : State L) → IsHonest L e s → HonestBare L.M.Honest e (bare s)
  honest_bare (Start h call) s t = tt
  honest_bare (Step h x) s t = honest_in h x s.world s.stopped (s.running h) t

  pub bare_honest : (e : Event L.Call L.M.Outside) (s : State L) → HonestBare L.M.Honest e (bare s) → IsHonest L e s
  bare_honest (Start h call) s t = tt
  bare_honest (Step h x) s t = honest_out h x s.world s.stopped (s.running h) t
