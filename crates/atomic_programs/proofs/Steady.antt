-- What holds of each event in any state.
use Rattle.atomic_programs.proofs.Vocabulary.{◌≡◌, ℕ, suc, Option, Some, None, Bool, true, false, List, [], ◌∷◌, ◌++◌, refl, sym, ◌∙◌, ap, append_assoc, inl, inr, Ret, Do, ExecResult, Waits, Ran, Stops, P, OpWithAnswer, oldest_first, Theory, Began, Refuses, Begins, Run, State, Event, Start, Step, WasStopped, unchanged, moved, tried, step_prog, step_unless, step_run, begun, busy_in, start_run, makes, next, PlacedStep, placed, start_of, In, is_quiet, Steady}
use Rattle.atomic_programs.proofs.Basics.{append_nil, oldest_first_more}

module _ (L : Theory) (s : State L) where
  quiet_moved : (h : ℕ) (r : Run L) (did : OpWithAnswer L.M) (ps : List (ℕ × L.M.Step)) (p : P L.M L.Reply) (w : L.M.World) → is_quiet (moved L h s r did ps p w).came ≡ true → (moved L h s r did ps p w).after ≡ unchanged L s
  quiet_moved h r did ps (Ret reply) w q = cc
  quiet_moved h r did ps (Do op m k) w q = cc

  quiet_tried : (h : ℕ) (r : Run L) (op : L.M.Op) (ps : L.M.Answer op → List (ℕ × L.M.Step)) (k : L.M.Answer op → P L.M L.Reply) (x : ExecResult (L.M.Answer op) L.M.World) → is_quiet (tried L h s r op ps k x).came ≡ true → (tried L h s r op ps k x).after ≡ unchanged L s
  quiet_tried h r op ps k Waits q = refl
  quiet_tried h r op ps k (Ran a w) q = quiet_moved h r (op, a) (ps a) (k a) w q
  quiet_tried h r op ps k (Stops w) q = cc

  quiet_prog : (h : ℕ) (y : L.M.Outside) (r : Run L) (p : P L.M L.Reply) → is_quiet (step_prog L h y s r p).came ≡ true → (step_prog L h y s r p).after ≡ unchanged L s
  quiet_prog h y r (Ret reply) q = refl
  quiet_prog h y r (Do op m k) q = quiet_tried h r op _ k (L.M.go h y op m s.world) q

  quiet_unless : (h : ℕ) (y : L.M.Outside) (r : Run L) (b : Bool) → is_quiet (step_unless L h y s b r).came ≡ true → (step_unless L h y s b r).after ≡ unchanged L s
  quiet_unless h y r true q = refl
  quiet_unless h y r false q = quiet_prog h y r r.prog q

  quiet_run : (h : ℕ) (y : L.M.Outside) (x : Option (Run L)) → is_quiet (step_run L h y s x).came ≡ true → (step_run L h y s x).after ≡ unchanged L s
  quiet_run h y None q = refl
  quiet_run h y (Some r) q = quiet_unless h y r s.stopped q

  quiet_begun : (h : ℕ) (call : L.Call) (x : Began L.Refusal L.M.World) → is_quiet (begun L h call s x).came ≡ true → (begun L h call s x).after ≡ unchanged L s
  quiet_begun h call (Refuses why) q = refl
  quiet_begun h call (Begins w) q = cc

  quiet_start : (h : ℕ) (call : L.Call) (x : Option (Run L)) → is_quiet (start_run L h call s x).came ≡ true → (start_run L h call s x).after ≡ unchanged L s
  quiet_start h call None q = quiet_begun h call (L.start h call (busy_in L s) s.world) q
  quiet_start h call (Some r) q = refl

  quiet_event : (e : Event L.Call L.M.Outside) → is_quiet (makes L e s).came ≡ true → next L e s ≡ unchanged L s
  quiet_event (Start h call) q = quiet_start h call (s.running h) q
  quiet_event (Step h y) q = quiet_run h y (s.running h) q

  stopped_begun : (h : ℕ) (call : L.Call) (x : Began L.Refusal L.M.World) → (begun L h call s x).after.stopped ≡ s.stopped
  stopped_begun h call (Refuses why) = refl
  stopped_begun h call (Begins w) = refl

  stopped_start : (h : ℕ) (call : L.Call) (x : Option (Run L)) → (start_run L h call s x).after.stopped ≡ s.stopped
  stopped_start h call None = stopped_begun h call (L.start h call (busy_in L s) s.world)
  stopped_start h call (Some r) = refl

  stopped_run : (h : ℕ) (y : L.M.Outside) (x : Option (Run L)) → s.stopped ≡ true → (step_run L h y s x).after.stopped ≡ true
  stopped_run h y None e = e
  stopped_run h y (Some r) e = rw e refl

  stopped_event : (e : Event L.Call L.M.Outside) → s.stopped ≡ true → (next L e s).stopped ≡ true
  stopped_event (Start h call) e = rw (stopped_start h call (s.running h)) e
  stopped_event (Step h y) e = stopped_run h y (s.running h) e

  answers : (h : ℕ) (y : L.M.Outside) (r : Run L) → s.stopped ≡ true → s.running h ≡ Some r → (makes L (Step h y) s).came ≡ WasStopped
  answers h y r e is = rw (is, e) refl

  starts_begun : (h : ℕ) (call : L.Call) (b : Bool) (x : Began L.Refusal L.M.World)
      → begun L h call (record s { stopped = b }) x ≡ record { came = (begun L h call s x).came; after = record ((begun L h call s x).after) { stopped = b } }
  starts_begun h call b (Refuses why) = refl
  starts_begun h call b (Begins w) = refl

  starts : (h : ℕ) (call : L.Call) (b : Bool) (x : Option (Run L))
      → start_run L h call (record s { stopped = b }) x ≡ record { came = (start_run L h call s x).came; after = record ((start_run L h call s x).after) { stopped = b } }
  starts h call b None = starts_begun h call b (L.start h call (busy_in L s) s.world)
  starts h call b (Some r) = refl

-- a list with more at its end, all of one number
record More (L : Theory) (n : ℕ) (list new : List (PlacedStep L)) : Type 0 where
  more : List (PlacedStep L)
  is : oldest_first new ≡ oldest_first list ++ more
  now : (e : PlacedStep L) → In e more → e.number ≡ n

none_more : (L : Theory) (n : ℕ) (list : List (PlacedStep L)) → More L n list list
none_more L n list = record { more = []; is = sym (append_nil (oldest_first list)); now = λ e i. absurd i }

placed_more : (L : Theory) (n : ℕ) (running : ℕ → Option (Run L)) (ps : List (ℕ × L.M.Step)) (list : List (PlacedStep L)) → More L n list (placed L n running ps list)
placed_more L n running [] list = none_more L n list
placed_more L n running (p ∷ ps) list =
    let one : PlacedStep L = record { number = n; hart = p.0; call = start_of L (running p.0); step = p.1 } in
    let rest = placed_more L n running ps (one ∷ list) in
    record {
      more = one ∷ rest.more;
      is = rest.is ∙ ap (λ (z : List (PlacedStep L)). z ++ rest.more) (oldest_first_more one list) ∙ append_assoc (oldest_first list) (one ∷ []) rest.more;
      now = λ e i. among one rest.more refl rest.now e i;
    }
  where
    among : (x : PlacedStep L) (more : List (PlacedStep L)) → x.number ≡ n → ((e : PlacedStep L) → In e more → e.number ≡ n) → (e : PlacedStep L) → In e (x ∷ more) → e.number ≡ n
    among x more here all e (inl q) = ap (λ (z : PlacedStep L). z.number) q ∙ here
    among x more here all e (inr i) = all e i

module _ (L : Theory) (s : State L) where
  more_moved : (h : ℕ) (r : Run L) (did : OpWithAnswer L.M) (ps : List (ℕ × L.M.Step)) (p : P L.M L.Reply) (w : L.M.World) → More L s.now s.list (moved L h s r did ps p w).after.list
  more_moved h r did ps (Ret reply) w = placed_more L s.now s.running ps s.list
  more_moved h r did ps (Do op m k) w = placed_more L s.now s.running ps s.list

  more_tried : (h : ℕ) (r : Run L) (op : L.M.Op) (ps : L.M.Answer op → List (ℕ × L.M.Step)) (k : L.M.Answer op → P L.M L.Reply) (x : ExecResult (L.M.Answer op) L.M.World) → More L s.now s.list (tried L h s r op ps k x).after.list
  more_tried h r op ps k Waits = none_more L s.now s.list
  more_tried h r op ps k (Ran a w) = more_moved h r (op, a) (ps a) (k a) w
  more_tried h r op ps k (Stops w) = none_more L s.now s.list

  more_prog : (h : ℕ) (y : L.M.Outside) (r : Run L) (p : P L.M L.Reply) → More L s.now s.list (step_prog L h y s r p).after.list
  more_prog h y r (Ret reply) = none_more L s.now s.list
  more_prog h y r (Do op m k) = more_tried h r op _ k (L.M.go h y op m s.world)

  more_unless : (h : ℕ) (y : L.M.Outside) (r : Run L) (b : Bool) → More L s.now s.list (step_unless L h y s b r).after.list
  more_unless h y r true = none_more L s.now s.list
  more_unless h y r false = more_prog h y r r.prog

  more_run : (h : ℕ) (y : L.M.Outside) (x : Option (Run L)) → More L s.now s.list (step_run L h y s x).after.list
  more_run h y None = none_more L s.now s.list
  more_run h y (Some r) = more_unless h y r s.stopped

  more_begun : (h : ℕ) (call : L.Call) (x : Began L.Refusal L.M.World) → More L s.now s.list (begun L h call s x).after.list
  more_begun h call (Refuses why) = none_more L s.now s.list
  more_begun h call (Begins w) = none_more L s.now s.list

  more_start : (h : ℕ) (call : L.Call) (x : Option (Run L)) → More L s.now s.list (start_run L h call s x).after.list
  more_start h call (Some r) = none_more L s.now s.list
  more_start h call None = more_begun h call (L.start h call (busy_in L s) s.world)

  more_event : (e : Event L.Call L.M.Outside) → More L s.now s.list (next L e s).list
  more_event (Start h call) = more_start h call (s.running h)
  more_event (Step h y) = more_run h y (s.running h)

  counts_moved : (h : ℕ) (r : Run L) (did : OpWithAnswer L.M) (ps : List (ℕ × L.M.Step)) (p : P L.M L.Reply) (w : L.M.World) → (moved L h s r did ps p w).after.now ≡ suc s.now
  counts_moved h r did ps (Ret reply) w = refl
  counts_moved h r did ps (Do op m k) w = refl

  counts_tried : (h : ℕ) (r : Run L) (op : L.M.Op) (ps : L.M.Answer op → List (ℕ × L.M.Step)) (k : L.M.Answer op → P L.M L.Reply) (x : ExecResult (L.M.Answer op) L.M.World) → (tried L h s r op ps k x).after.now ≡ suc s.now
  counts_tried h r op ps k Waits = refl
  counts_tried h r op ps k (Ran a w) = counts_moved h r (op, a) (ps a) (k a) w
  counts_tried h r op ps k (Stops w) = refl

  counts_prog : (h : ℕ) (y : L.M.Outside) (r : Run L) (p : P L.M L.Reply) → (step_prog L h y s r p).after.now ≡ suc s.now
  counts_prog h y r (Ret reply) = refl
  counts_prog h y r (Do op m k) = counts_tried h r op _ k (L.M.go h y op m s.world)

  counts_unless : (h : ℕ) (y : L.M.Outside) (r : Run L) (b : Bool) → (step_unless L h y s b r).after.now ≡ suc s.now
  counts_unless h y r true = refl
  counts_unless h y r false = counts_prog h y r r.prog

  counts_run : (h : ℕ) (y : L.M.Outside) (x : Option (Run L)) → (step_run L h y s x).after.now ≡ suc s.now
  counts_run h y None = refl
  counts_run h y (Some r) = counts_unless h y r s.stopped

  counts_begun : (h : ℕ) (call : L.Call) (x : Began L.Refusal L.M.World) → (begun L h call s x).after.now ≡ suc s.now
  counts_begun h call (Refuses why) = refl
  counts_begun h call (Begins w) = refl

  counts_start : (h : ℕ) (call : L.Call) (x : Option (Run L)) → (start_run L h call s x).after.now ≡ suc s.now
  counts_start h call (Some r) = refl
  counts_start h call None = counts_begun h call (L.start h call (busy_in L s) s.world)

  counts_event : (e : Event L.Call L.M.Outside) → (next L e s).now ≡ suc s.now
  counts_event (Start h call) = counts_start h call (s.running h)
  counts_event (Step h y) = counts_run h y (s.running h)

pub steady : (L : Theory) → Steady L
steady L =
    record {
      quiet = λ e s q. quiet_event L s e q;
      counts = λ e s. counts_event L s e;
      appends = λ e s. (let m = more_event L s e in record { more = m.more; is = m.is; now = m.now });
      answers_stopped = λ h y r s e is. answers L s h y r e is;
      stays_stopped = λ e s q. stopped_event L s e q;
      starts_as_before = λ h call s b. starts L s h call b (s.running h);
    }
