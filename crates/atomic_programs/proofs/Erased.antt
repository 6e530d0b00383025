-- A run with its history, without it, is a run of the code's state.
use Rattle.atomic_programs.proofs.Vocabulary.{◌≡◌, ℕ, suc, Option, Some, None, Bool, true, false, List, [], ◌∷◌, ◌++◌, refl, sym, ◌∙◌, ap, nat_eq, if◌then◌else◌, Ret, Do, plain, ExecResult, Waits, Ran, Stops, exec_result_in, P, OpWithAnswer, own, onto, Theory, Began, Refuses, Begins, Run, State, Event, Start, Step, Made, changed, is_some, told, all_told, moved, tried, step_prog, step_unless, step_run, begun, busy_in, start_run, makes, next, run, Outcome, outcomes, UnmarkedProgram, Code, IsCode, began_in, Plain, PlainMade, by_kind, plain_moved, plain_tried, plain_prog, plain_unless, plain_step, plain_begun, plain_start, plain_makes, plain_run, plain_outcomes, all_by_kind, prog_of, erase}

module _ (L : Theory) (C : Code L) where
  -- an event with its history, without it
  abbrev pub erased : Made L → PlainMade L C
  erased x = record { came = by_kind L C x.came; after = erase L C x.after }

  erase-told : (xs : List L.M.Step) (x : Option (Run L)) → prog_of L C (told L xs x) ≡ prog_of L C x
  erase-told xs None = refl
  erase-told xs (Some r) = refl

  pub erase-changed : (ps : List (ℕ × L.M.Step)) (f : ℕ → Option (Run L)) (h : ℕ) (x : Option (Run L))
      → (λ k. prog_of L C (changed (all_told L ps f) h x k)) ≡ changed (λ k. prog_of L C (f k)) h (prog_of L C x)
  erase-changed ps f h x = λ i k. at k (nat_eq k h) i
    where
      at : (k : ℕ) (b : Bool) → prog_of L C (if b then x else told L (own k ps) (f k)) ≡ (if b then prog_of L C x else prog_of L C (f k))
      at k true = refl
      at k false = erase-told (own k ps) (f k)

  pub erase-set : (f : ℕ → Option (Run L)) (h : ℕ) (x : Option (Run L)) → (λ k. prog_of L C (changed f h x k)) ≡ changed (λ k. prog_of L C (f k)) h (prog_of L C x)
  erase-set f h x = λ i k. at k (nat_eq k h) i
    where
      at : (k : ℕ) (b : Bool) → prog_of L C (if b then x else f k) ≡ (if b then prog_of L C x else prog_of L C (f k))
      at k true = refl
      at k false = refl

  erase-moved : (h : ℕ) (s : State L) (r : Run L) (did : OpWithAnswer L.M) (ps : List (ℕ × L.M.Step)) (p : P L.M L.Reply) (w : L.M.World)
      → plain_moved L C h (erase L C s) (C.kind did.0 did.1) (plain p) (C.shared w) ≡ erased (moved L h s r did ps p w)
  erase-moved h s r did ps (Ret a) w =
      ap (λ (f : ℕ → Option (UnmarkedProgram L)). (moved_to f)) (sym (erase-changed ps s.running h None))
    where
      moved_to : (ℕ → Option (UnmarkedProgram L)) → PlainMade L C
      moved_to f = record { came = by_kind L C (moved L h s r did ps (Ret a) w).came; after = record { shared = C.shared w; stopped = s.stopped; running = f } }
  erase-moved h s r did ps (Do op m k) w =
      ap (λ (f : ℕ → Option (UnmarkedProgram L)). (moved_to f)) (sym (erase-changed ps s.running h (Some (record { call = r.call; start = r.start; prog = Do op m k; count = suc r.count; done = onto (own h ps) r.done }))))
    where
      moved_to : (ℕ → Option (UnmarkedProgram L)) → PlainMade L C
      moved_to f = record { came = by_kind L C (moved L h s r did ps (Do op m k) w).came; after = record { shared = C.shared w; stopped = s.stopped; running = f } }

  erase-tried : (h : ℕ) (s : State L) (r : Run L) (op : L.M.Op) (ps : L.M.Answer op → List (ℕ × L.M.Step)) (k : L.M.Answer op → P L.M L.Reply) (x : ExecResult (L.M.Answer op) L.M.World)
      → plain_tried L C h (erase L C s) op (λ a. plain (k a)) (exec_result_in C.shared x) ≡ erased (tried L h s r op ps k x)
  erase-tried h s r op ps k Waits = refl
  erase-tried h s r op ps k (Ran a w) = erase-moved h s r (op, a) (ps a) (k a) w
  erase-tried h s r op ps k (Stops w) = refl

  module _ (is : IsCode L C) where
    erase-prog : (h : ℕ) (y : L.M.Outside) (s : State L) (r : Run L) (p : P L.M L.Reply) → plain_prog L C h y (erase L C s) (plain p) ≡ erased (step_prog L h y s r p)
    erase-prog h y s r (Ret a) = refl
    erase-prog h y s r (Do op m k) =
        ap (plain_tried L C h (erase L C s) op (λ a. plain (k a))) (is.goes h y op m s.world) ∙ erase-tried h s r op (λ a. L.M.places h op a (m a) s.world) k (L.M.go h y op m s.world)

    erase-unless : (h : ℕ) (y : L.M.Outside) (s : State L) (r : Run L) (b : Bool) → plain_unless L C h y (erase L C s) b (plain r.prog) ≡ erased (step_unless L h y s b r)
    erase-unless h y s r true = refl
    erase-unless h y s r false = erase-prog h y s r r.prog

    erase-step : (h : ℕ) (y : L.M.Outside) (s : State L) (x : Option (Run L)) → plain_step L C h y (erase L C s) (prog_of L C x) ≡ erased (step_run L h y s x)
    erase-step h y s None = refl
    erase-step h y s (Some r) = erase-unless h y s r s.stopped

    erase-begun : (h : ℕ) (call : L.Call) (s : State L) (x : Began L.Refusal L.M.World) → plain_begun L C h call (erase L C s) (began_in C.shared x) ≡ erased (begun L h call s x)
    erase-begun h call s (Refuses why) = refl
    erase-begun h call s (Begins w) =
        ap (λ (f : ℕ → Option (UnmarkedProgram L)). (begun_to f)) (sym (erase-set s.running h (Some (record { call = call; start = s.now; prog = L.program call; count = 0; done = [] }))))
      where
        begun_to : (ℕ → Option (UnmarkedProgram L)) → PlainMade L C
        begun_to f = record { came = by_kind L C (begun L h call s (Begins w)).came; after = record { shared = C.shared w; stopped = s.stopped; running = f } }

    busy_same : (s : State L) → (λ j. is_some (prog_of L C (s.running j))) ≡ busy_in L s
    busy_same s = λ i j. at (s.running j) i
      where
        at : (x : Option (Run L)) → is_some (prog_of L C x) ≡ is_some x
        at None = refl
        at (Some r) = refl

    erase-start : (h : ℕ) (call : L.Call) (s : State L) (x : Option (Run L)) → plain_start L C h call (erase L C s) (prog_of L C x) ≡ erased (start_run L h call s x)
    erase-start h call s (Some r) = refl
    erase-start h call s None =
        ap (λ (f : ℕ → Bool). plain_begun L C h call (erase L C s) (C.begin h call f (C.shared s.world))) (busy_same s)
        ∙ ap (plain_begun L C h call (erase L C s)) (is.starts h call (busy_in L s) s.world)
        ∙ erase-begun h call s (L.start h call (busy_in L s) s.world)

    -- an event makes of the code's state what it makes with the history
    pub erase-makes : (e : Event L.Call L.M.Outside) (s : State L) → plain_makes L C e (erase L C s) ≡ erased (makes L e s)
    erase-makes (Start h call) s = erase-start h call s (s.running h)
    erase-makes (Step h y) s = erase-step h y s (s.running h)

    pub erase-run : (es : List (Event L.Call L.M.Outside)) (s : State L) → plain_run L C es (erase L C s) ≡ erase L C (run L es s)
    erase-run [] s = refl
    erase-run (e ∷ es) s = ap (plain_run L C es) (ap (λ (x : PlainMade L C). x.after) (erase-makes e s)) ∙ erase-run es (next L e s)

    pub erase-outcomes : (es : List (Event L.Call L.M.Outside)) (s : State L) → plain_outcomes L C es (erase L C s) ≡ all_by_kind L C (outcomes L es s)
    erase-outcomes [] s = refl
    erase-outcomes (e ∷ es) s =
        ap (λ (x : PlainMade L C). x.came ∷ plain_outcomes L C es x.after) (erase-makes e s) ∙ ap (λ (z : List (Outcome C.Kind L.Reply L.Refusal)). by_kind L C (makes L e s).came ∷ z) (erase-outcomes es (next L e s))

  -- one event more
  pub plain_run-more : (es : List (Event L.Call L.M.Outside)) (e : Event L.Call L.M.Outside) (s : Plain L C) → plain_run L C (es ++ e ∷ []) s ≡ (plain_makes L C e (plain_run L C es s)).after
  plain_run-more [] e s = refl
  plain_run-more (x ∷ es) e s = plain_run-more es e (plain_makes L C x s).after
