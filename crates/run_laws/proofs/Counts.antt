-- The number of a call's steps that a state keeps is the one that its events show; so no call takes more than its limit.
use Rattle.run_laws.proofs.Vocabulary.{◌≡◌, ◌≢◌, ◌≤◌, ◌+◌, ℕ, suc, Bool, true, false, nat_eq, if◌then◌else◌, Option, Some, None, List, [], ◌∷◌, refl, sym, ◌∙◌, ap, subst, inl, arith, eqb-true, eqb-false, Ret, Do, ExecResult, Waits, Ran, Stops, PartOf as P, OpWithAnswer, own, onto, Theory, Began, Refuses, Begins, Lawful, Run, FinishedCall, State, Made, EventOf as Event, Start, Step, hart_of, AllHonest, changed, told, all_told, moved, tried, step_prog, step_unless, step_run, begun, busy_in, start_run, makes, next, outcomes, In, Keeps, Keeps-next, changed_same, changed_other, Some-inj, with_outcome, steps_ran, OfBegun, OfEachCall}

-- hart h's call is r, and `later` of its steps run after this
module _ (L : Theory) (h : ℕ) (s : State L) (r : Run L) (is : s.running h ≡ Some r) (later : ℕ) where
  -- after the event, with the later steps, the call is within its limit; and so is each that has finished
  pub record Fits (m : Made L) : Type 0 where
    pub going : (q : Run L) → m.after.running h ≡ Some q → q.count + later ≤ L.limit q.call
    pub over : (f : FinishedCall L) → In f m.after.finished → f.count ≤ L.limit f.call

  abbrev Within : ℕ → Made L → Type 0
  Within g m = r.count + (if nat_eq g h then with_outcome m.came later else later) ≤ L.limit r.call

  -- an event that doesn't count
  quiet : (g : ℕ) (m : Made L) → with_outcome m.came later ≡ later → m.after.running h ≡ Some r → Fits m → Within g m
  quiet g m same e f = by (nat_eq g h)
    where
      by : (b : Bool) → r.count + (if b then with_outcome m.came later else later) ≤ L.limit r.call
      by true = subst (λ (z : ℕ). r.count + z ≤ L.limit r.call) (sym same) (f.going r e)
      by false = f.going r e

  -- the step is another hart's
  other : (g : ℕ) → g ≢ h → (m : Made L) (xs : List L.M.Step) (x : Option (Run L)) (f : ℕ → Option (Run L)) → m.after.running ≡ changed f g x → f h ≡ told L xs (Some r) → Fits m → r.count + later ≤ L.limit r.call
  other g ne m xs x f e t fits = fits.going (record r { done = onto xs r.done }) (ap (λ (z : ℕ → Option (Run L)). z h) e ∙ changed_other f g x h (λ y. ne (sym y)) ∙ t)

  ran : (g : ℕ) (q : Run L) (did : OpWithAnswer L.M) (ps : List (ℕ × L.M.Step)) (p : P L.M L.Reply) (w : L.M.World) → s.running g ≡ Some q → Fits (moved L g s q did ps p w) → Within g (moved L g s q did ps p w)
  ran g q did ps (Ret reply) w at f = by (nat_eq g h) refl
    where
      by : (b : Bool) → nat_eq g h ≡ b → r.count + (if b then 1 else later) ≤ L.limit r.call
      by true t =
          let same : q ≡ r = Some-inj q r (sym at ∙ ap s.running (eqb-true g h t) ∙ is) in
          subst (λ (z : Run L). z.count + 1 ≤ L.limit z.call) same
          (let a : suc q.count ≤ L.limit q.call = f.over (record { hart = g; call = q.call; start = q.start; number = s.now; count = suc q.count; reply = reply }) (inl refl) in omega (arith, a))
      by false t = other g (eqb-false g h t) (moved L g s q did ps (Ret reply) w) (own h ps) None (all_told L ps s.running) refl (ap (told L (own h ps)) is) f
  ran g q did ps (Do op m k) w at f = by (nat_eq g h) refl
    where
      new : Run L
      new = record { call = q.call; start = q.start; prog = Do op m k; count = suc q.count; done = onto (own g ps) q.done }

      by : (b : Bool) → nat_eq g h ≡ b → r.count + (if b then suc later else later) ≤ L.limit r.call
      by true t =
          let same : q ≡ r = Some-inj q r (sym at ∙ ap s.running (eqb-true g h t) ∙ is) in
          subst (λ (z : Run L). z.count + suc later ≤ L.limit z.call) same
          (let a : suc q.count + later ≤ L.limit q.call = f.going new (changed_same (all_told L ps s.running) g (Some new) h (sym (eqb-true g h t))) in omega (arith, a))
      by false t = other g (eqb-false g h t) (moved L g s q did ps (Do op m k) w) (own h ps) (Some new) (all_told L ps s.running) refl (ap (told L (own h ps)) is) f

  after_tried : (g : ℕ) (q : Run L) (op : L.M.Op) (ps : L.M.Answer op → List (ℕ × L.M.Step)) (k : L.M.Answer op → P L.M L.Reply) (d : ExecResult (L.M.Answer op) L.M.World) → s.running g ≡ Some q → Fits (tried L g s q op ps k d) → Within g (tried L g s q op ps k d)
  after_tried g q op ps k Waits at f = quiet g (tried L g s q op ps k Waits) refl is f
  after_tried g q op ps k (Ran a w) at f = ran g q (op, a) (ps a) (k a) w at f
  after_tried g q op ps k (Stops w) at f = quiet g (tried L g s q op ps k (Stops w)) refl is f

  after_prog : (g : ℕ) (x : L.M.Outside) (q : Run L) (p : P L.M L.Reply) → s.running g ≡ Some q → Fits (step_prog L g x s q p) → Within g (step_prog L g x s q p)
  after_prog g x q (Ret reply) at f = quiet g (step_prog L g x s q (Ret reply)) refl is f
  after_prog g x q (Do op m k) at f = after_tried g q op (λ a. L.M.places g op a (m a) s.world) k (L.M.go g x op m s.world) at f

  after_unless : (g : ℕ) (x : L.M.Outside) (b : Bool) (q : Run L) → s.running g ≡ Some q → Fits (step_unless L g x s b q) → Within g (step_unless L g x s b q)
  after_unless g x true q at f = quiet g (step_unless L g x s true q) refl is f
  after_unless g x false q at f = after_prog g x q q.prog at f

  after_step : (g : ℕ) (x : L.M.Outside) (o : Option (Run L)) → s.running g ≡ o → Fits (step_run L g x s o) → Within g (step_run L g x s o)
  after_step g x None at f = quiet g (step_run L g x s None) refl is f
  after_step g x (Some q) at f = after_unless g x s.stopped q at f

  after_begun : (g : ℕ) (call : L.Call) (b : Began L.Refusal L.M.World) → s.running g ≡ None → Fits (begun L g call s b) → Within g (begun L g call s b)
  after_begun g call (Refuses why) at f = quiet g (begun L g call s (Refuses why)) refl is f
  after_begun g call (Begins w) at f = quiet g (begun L g call s (Begins w)) refl (changed_other s.running g (Some new) h apart ∙ is) f
    where
      new : Run L
      new = record { call = call; start = s.now; prog = L.program call; count = 0; done = [] }

      -- the hart that starts had none
      apart : h ≢ g
      apart e = let c : None ≡ Some r = sym at ∙ ap s.running (sym e) ∙ is in cc

  after_start : (g : ℕ) (call : L.Call) (o : Option (Run L)) → s.running g ≡ o → Fits (start_run L g call s o) → Within g (start_run L g call s o)
  after_start g call (Some q) at f = quiet g (start_run L g call s (Some q)) refl is f
  after_start g call None at f = after_begun g call (L.start g call (busy_in L s) s.world) at f

  pub after_event : (e : Event L.Call L.M.Outside) → Fits (makes L e s) → Within (hart_of e) (makes L e s)
  after_event (Start g call) f = after_start g call (s.running g) refl f
  after_event (Step g x) f = after_step g x (s.running g) refl f

module _ (L : Theory) (laws : Lawful L) (base : L.M.Tree) where
  -- a call under way, with the steps that ran and those that will
  pub steps_fit : (h : ℕ) (es : List (Event L.Call L.M.Outside)) (s : State L) (r : Run L) → AllHonest L es s → Keeps L base s → s.running h ≡ Some r → r.count + steps_ran h es (outcomes L es s) ≤ L.limit r.call
  steps_fit h [] s r t k is = let g = k.going h r is in let b : r.count + g.left ≤ L.limit r.call = g.bounded in omega (arith, b)
  steps_fit h (e ∷ es) s r t k is =
      let after : Keeps L base (next L e s) = Keeps-next L laws base e s t.0 k in
      after_event L h s r is (steps_ran h es (outcomes L es (next L e s))) e
      (record { going = λ q run. steps_fit h es (next L e s) q t.1 after run; over = λ f i. (after.over f i).bounded })

  -- what is so of a call that may begin, and of no more steps than its limit, is so of each
  module _ (Is : L.Call → ℕ → Type 0) (few : (h : ℕ) (call : L.Call) (busy : ℕ → Bool) (w u : L.M.World) → L.start h call busy w ≡ Begins u → (n : ℕ) → n ≤ L.limit call → Is call n) where
    begun_fits : (h : ℕ) (call : L.Call) (s : State L) (b : Began L.Refusal L.M.World) (es : List (Event L.Call L.M.Outside)) → L.start h call (busy_in L s) s.world ≡ b → AllHonest L es (begun L h call s b).after → Keeps L base (begun L h call s b).after
        → OfBegun Is (Start h call) (begun L h call s b).came es (outcomes L es (begun L h call s b).after)
    begun_fits h call s (Refuses why) es e t k = tt
    begun_fits h call s (Begins u) es e t k = few h call (busy_in L s) s.world u e (steps_ran h es (outcomes L es (begun L h call s (Begins u)).after)) (
        let a : 0 + steps_ran h es (outcomes L es (begun L h call s (Begins u)).after) ≤ L.limit call = steps_fit h es (begun L h call s (Begins u)).after new t k (changed_same s.running h (Some new) h refl) in
        omega (arith, a)
        )
      where
        new : Run L
        new = record { call = call; start = s.now; prog = L.program call; count = 0; done = [] }

    start_fits : (h : ℕ) (call : L.Call) (s : State L) (o : Option (Run L)) (es : List (Event L.Call L.M.Outside)) → AllHonest L es (start_run L h call s o).after → Keeps L base (start_run L h call s o).after
        → OfBegun Is (Start h call) (start_run L h call s o).came es (outcomes L es (start_run L h call s o).after)
    start_fits h call s (Some r) es t k = tt
    start_fits h call s None es t k = begun_fits h call s (L.start h call (busy_in L s) s.world) es refl t k

    event_fits : (e : Event L.Call L.M.Outside) (s : State L) (es : List (Event L.Call L.M.Outside)) → AllHonest L es (next L e s) → Keeps L base (next L e s) → OfBegun Is e (makes L e s).came es (outcomes L es (next L e s))
    event_fits (Start h call) s es t k = start_fits h call s (s.running h) es t k
    event_fits (Step h x) s es t k = tt

    pub each_fits : (es : List (Event L.Call L.M.Outside)) (s : State L) → AllHonest L es s → Keeps L base s → OfEachCall Is es (outcomes L es s)
    each_fits [] s t k = tt
    each_fits (e ∷ es) s t k = let after : Keeps L base (next L e s) = Keeps-next L laws base e s t.0 k in (event_fits e s es t.1 after, each_fits es (next L e s) t.1 after)
