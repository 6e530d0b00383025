-- A world that has stopped has a call under way: that of the hart whose step stopped it.
use Rattle.run_laws.proofs.Vocabulary.{◌≡◌, ℕ, Bool, true, false, Option, Some, None, List, [], ◌∷◌, if◌then◌else◌, refl, sym, ◌∙◌, ap, nat_eq, Ret, Do, ExecResult, Waits, Ran, Stops, PartOf as P, OpWithAnswer, Theory, Began, Refuses, Begins, Run, State, EventOf as Event, Start, Step, changed, fresh, is_called as is_some, run, moved, tried, step_prog, step_unless, step_run, begun, busy_in, start_run, next}

module _ (L : Theory) where
  record HasCall (s : State L) : Type 0 where
    hart : ℕ
    busy : busy_in L s hart ≡ true

  abbrev StopsInCalls : State L → Type 0
  StopsInCalls s = s.stopped ≡ true → HasCall s

  -- ---- starts

  with_call : (f : ℕ → Option (Run L)) (h : ℕ) (r : Run L) (j : ℕ) → is_some (f j) ≡ true → is_some (changed f h (Some r) j) ≡ true
  with_call f h r j e = at (nat_eq j h)
    where
      at : (b : Bool) → is_some (if b then Some r else f j) ≡ true
      at true = refl
      at false = e

  began : (h : ℕ) (call : L.Call) (s : State L) (b : Began L.Refusal L.M.World) → StopsInCalls s → StopsInCalls (begun L h call s b).after
  began h call s (Refuses why) was on = let c = was on in record { hart = c.hart; busy = c.busy }
  began h call s (Begins w) was on = let c = was on in record { hart = c.hart; busy = with_call s.running h _ c.hart c.busy }

  started : (h : ℕ) (call : L.Call) (s : State L) (o : Option (Run L)) → StopsInCalls s → StopsInCalls (start_run L h call s o).after
  started h call s None was = began h call s (L.start h call (busy_in L s) s.world) was
  started h call s (Some r) was = λ on. let c = was on in record { hart = c.hart; busy = c.busy }

  -- ---- steps

  runs_on : (s : State L) → s.stopped ≡ false → StopsInCalls s
  runs_on s runs on = absurd (let e : false ≡ true = sym runs ∙ on in cc)

  -- the step of a hart's call, before which the world hadn't stopped
  module _ (h : ℕ) (x : L.M.Outside) (s : State L) (r : Run L) (is : s.running h ≡ Some r) where
    went_on : (did : OpWithAnswer L.M) (ps : List (ℕ × L.M.Step)) (p : P L.M L.Reply) (w : L.M.World)
        → s.stopped ≡ false → StopsInCalls (moved L h s r did ps p w).after
    went_on did ps (Ret reply) w runs = runs_on _ runs
    went_on did ps (Do op m k) w runs = runs_on _ runs

    came_to : (op : L.M.Op) (ps : L.M.Answer op → List (ℕ × L.M.Step)) (k : L.M.Answer op → P L.M L.Reply)
        → (d : ExecResult (L.M.Answer op) L.M.World) → s.stopped ≡ false → StopsInCalls (tried L h s r op ps k d).after
    came_to op ps k Waits runs = runs_on _ runs
    came_to op ps k (Ran a w) runs = went_on (op, a) (ps a) (k a) w runs
    came_to op ps k (Stops w) runs = λ on. record { hart = h; busy = ap (is_some {A = Run L}) is }

    stepped : (p : P L.M L.Reply) → s.stopped ≡ false → StopsInCalls (step_prog L h x s r p).after
    stepped (Ret reply) runs = runs_on _ runs
    stepped (Do op m k) runs = came_to op (λ a. L.M.places h op a (m a) s.world) k (L.M.go h x op m s.world) runs

    unless : (b : Bool) → s.stopped ≡ b → StopsInCalls (step_unless L h x s b r).after
    unless true stopped = λ on. record { hart = h; busy = ap (is_some {A = Run L}) is }
    unless false runs = stepped r.prog runs

  ran : (h : ℕ) (x : L.M.Outside) (s : State L) (o : Option (Run L)) → s.running h ≡ o
      → StopsInCalls s → StopsInCalls (step_run L h x s o).after
  ran h x s None is was = λ on. let c = was on in record { hart = c.hart; busy = c.busy }
  ran h x s (Some r) is was = unless h x s r is s.stopped refl

  -- ---- events

  goes_on : (e : Event L.Call L.M.Outside) (s : State L) → StopsInCalls s → StopsInCalls (next L e s)
  goes_on (Start h call) s was = started h call s (s.running h) was
  goes_on (Step h x) s was = ran h x s (s.running h) refl was

  stops_in_calls : (es : List (Event L.Call L.M.Outside)) (s : State L) → StopsInCalls s → StopsInCalls (run L es s)
  stops_in_calls [] s was = was
  stops_in_calls (e ∷ es) s was = stops_in_calls es (next L e s) (goes_on e s was)

  module _ (es : List (Event L.Call L.M.Outside)) (w : L.M.World) where
    abbrev s : State L
    s = run L es (fresh L w)

    -- if all harts are idle it hasn't stopped
    pub idle_runs : ((h : ℕ) → s.running h ≡ None) → s.stopped ≡ false
    idle_runs idle = by s.stopped refl
      where
        by : (b : Bool) → s.stopped ≡ b → s.stopped ≡ false
        by false e = e
        by true e = absurd (
            let c : HasCall s = stops_in_calls es (fresh L w) (runs_on (fresh L w) refl) e in
            let q : false ≡ true = sym (ap (is_some {A = Run L}) (idle c.hart)) ∙ c.busy in
            cc)
