-- A state's calls are just those that the events with their outcomes show.
use Rattle.atomic_programs.proofs.Vocabulary.{◌≡◌, ◌≢◌, ℕ, suc, Option, Some, None, Bool, true, false, List, [], ◌∷◌, refl, sym, ◌∙◌, ap, subst, ◌⊎◌, inl, inr, Ret, Do, ExecResult, Waits, Ran, Stops, P, OpWithAnswer, own, onto, Theory, Began, Refuses, Begins, Run, FinishedCall, State, Event, Start, Step, EventOutcome, Started, Refused, WasIdle, DidWait, DidRun, DidEnd, DidStop, WasStopped, told, all_told, unchanged, moved, tried, step_prog, step_unless, step_run, begun, busy_in, start_run, makes, next, run, fresh, In, EventReport, happened, IsTraced}
use Rattle.atomic_programs.proofs.Basics.{changed_tells, Some-inj}

module _ (L : Theory) where
  same_set : (V W : EventReport L → Type 0) (s : State L) → ((x : EventReport L) → V x → W x) → ((x : EventReport L) → W x → V x) → IsTraced L V s → IsTraced L W s
  same_set V W s to from t =
      record {
        reported = λ x w h y reply e c. t.reported x (from x w) h y reply e c;
        started = λ f i. to _ (t.started f i);
        ended = λ f i. (let e = t.ended f i in (e.0, to _ e.1));
        under_way = λ h r e. to _ (t.under_way h r e);
      }

  -- the events so far, and one more
  abbrev And : (EventReport L → Type 0) → ℕ → Event L.Call L.M.Outside → EventOutcome L → EventReport L → Type 0
  And V n e c x = V x ⊎ (x ≡ record { number = n; event = e; came = c })

  module _ (V : EventReport L → Type 0) (s : State L) (t : IsTraced L V s) where
    abbrev IsReply : EventOutcome L → Type 0
    IsReply c = (reply : L.Reply) × (c ≡ DidEnd reply)

    -- an event that gives no reply
    no_reply : (e : Event L.Call L.M.Outside) (c : EventOutcome L) (u : State L) → (IsReply c → ⊥) → u.finished ≡ s.finished
        → ((h : ℕ) (r : Run L) → u.running h ≡ Some r → And V s.now e c (record { number = r.start; event = Start h r.call; came = Started })) → IsTraced L (And V s.now e c) u
    no_reply e c u none same runs =
        record {
          reported = λ x w h y reply ev ce. at x w h y reply ev ce;
          started = λ f i. inl (t.started f (subst (λ (fs : List (FinishedCall L)). In f fs) same i));
          ended = λ f i. (let e = t.ended f (subst (λ (fs : List (FinishedCall L)). In f fs) same i) in (e.0, inl e.1));
          under_way = runs;
        }
      where
        at : (x : EventReport L) → And V s.now e c x → (h : ℕ) (y : L.M.Outside) (reply : L.Reply) → x.event ≡ Step h y → x.came ≡ DidEnd reply
            → (f : FinishedCall L) × In f u.finished × (f.hart ≡ h) × (f.number ≡ x.number) × (f.reply ≡ reply)
        at x (inl v) h y reply ev ce =
            let d = t.reported x v h y reply ev ce in
            (d.0, subst (λ (fs : List (FinishedCall L)). In d.0 fs) (sym same) d.1, d.2, d.3, d.4)
        at x (inr q) h y reply ev ce = absurd (none (reply, sym (ap (λ (y : EventReport L). y.came) q) ∙ ce))

    quietly : (e : Event L.Call L.M.Outside) (c : EventOutcome L) → (IsReply c → ⊥) → IsTraced L (And V s.now e c) (unchanged L s)
    quietly e c none = no_reply e c (unchanged L s) none refl (λ h r q. inl (t.under_way h r q))

    told_was : (h j : ℕ) (xs : List L.M.Step) (x : Option (Run L)) (r : Run L) → s.running j ≡ x → told L xs x ≡ Some r → V (record { number = r.start; event = Start j r.call; came = Started })
    told_was h j xs None r e q = let c : ◌≡◌ {A = Option (Run L)} None (Some r) = q in cc
    told_was h j xs (Some p) r e q = subst (λ (z : Run L). V (record { number = z.start; event = Start j z.call; came = Started })) (Some-inj (record p { done = onto xs p.done }) r q) (t.under_way j p e)

    after_moved : (h : ℕ) (y : L.M.Outside) (r : Run L) (did : OpWithAnswer L.M) (ps : List (ℕ × L.M.Step)) (p : P L.M L.Reply) (w : L.M.World) → s.running h ≡ Some r
        → IsTraced L (And V s.now (Step h y) (moved L h s r did ps p w).came) (moved L h s r did ps p w).after
    after_moved h y r did ps (Do op m k) w is =
        no_reply (Step h y) (DidRun did) (moved L h s r did ps (Do op m k) w).after (λ y. (let c : DidRun did ≡ DidEnd y.0 = y.1 in cc)) refl (λ j q e. inl (at j q (changed_tells (all_told L ps s.running) h (Some new) j (Some q) e)))
      where
        new : Run L
        new = record { call = r.call; start = r.start; prog = Do op m k; count = suc r.count; done = onto (own h ps) r.done }

        at : (j : ℕ) (q : Run L) → ((j ≡ h) × (Some new ≡ Some q)) ⊎ ((j ≢ h) × (all_told L ps s.running j ≡ Some q)) → V (record { number = q.start; event = Start j q.call; came = Started })
        at j q (inl x) =
            subst (λ (i : ℕ). V (record { number = q.start; event = Start i q.call; came = Started })) (sym x.0)
            (subst (λ (z : Run L). V (record { number = z.start; event = Start h z.call; came = Started })) (Some-inj new q x.1) (t.under_way h r is))
        at j q (inr x) = told_was h j (own j ps) (s.running j) q refl x.1
    after_moved h y r did ps (Ret reply) w is =
        record {
          reported = λ x v j z reply2 ev ce. reported x v j z reply2 ev ce;
          started = λ f i. started f i;
          ended = λ f i. ended f i;
          under_way = λ j q e. inl (at j q (changed_tells (all_told L ps s.running) h None j (Some q) e));
        }
      where
        new : FinishedCall L
        new = record { hart = h; call = r.call; start = r.start; number = s.now; count = suc r.count; reply = reply }

        reported : (x : EventReport L) → And V s.now (Step h y) (DidEnd reply) x → (j : ℕ) (z : L.M.Outside) (reply2 : L.Reply) → x.event ≡ Step j z → x.came ≡ DidEnd reply2
            → (f : FinishedCall L) × In f (new ∷ s.finished) × (f.hart ≡ j) × (f.number ≡ x.number) × (f.reply ≡ reply2)
        reported x (inl v) j z reply2 ev ce = let d = t.reported x v j z reply2 ev ce in (d.0, inr d.1, d.2, d.3, d.4)
        reported x (inr q) j z reply2 ev ce =
            (new, inl refl, same_hart (sym (ap (λ (y : EventReport L). y.event) q) ∙ ev), sym (ap (λ (y : EventReport L). y.number) q), same_reply (sym (ap (λ (y : EventReport L). y.came) q) ∙ ce))
          where
            same_hart : ◌≡◌ {A = Event L.Call L.M.Outside} (Step h y) (Step j z) → h ≡ j
            same_hart e = cc

            same_reply : ◌≡◌ {A = EventOutcome L} (DidEnd reply) (DidEnd reply2) → reply ≡ reply2
            same_reply e = cc

        started : (f : FinishedCall L) → In f (new ∷ s.finished) → And V s.now (Step h y) (DidEnd reply) (record { number = f.start; event = Start f.hart f.call; came = Started })
        started f (inl e) = inl (subst (λ (z : FinishedCall L). V (record { number = z.start; event = Start z.hart z.call; came = Started })) (sym e) (t.under_way h r is))
        started f (inr i) = inl (t.started f i)

        ended : (f : FinishedCall L) → In f (new ∷ s.finished) → (z : L.M.Outside) × And V s.now (Step h y) (DidEnd reply) (record { number = f.number; event = Step f.hart z; came = DidEnd f.reply })
        ended f (inl e) = (y, inr (ap (λ (z : FinishedCall L). shown z) e))
          where
            shown : FinishedCall L → EventReport L
            shown z = record { number = z.number; event = Step z.hart y; came = DidEnd z.reply }
        ended f (inr i) = let e = t.ended f i in (e.0, inl e.1)

        at : (j : ℕ) (q : Run L) → ((j ≡ h) × (None ≡ Some q)) ⊎ ((j ≢ h) × (all_told L ps s.running j ≡ Some q)) → V (record { number = q.start; event = Start j q.call; came = Started })
        at j q (inl x) = let c : None ≡ Some q = x.1 in cc
        at j q (inr x) = told_was h j (own j ps) (s.running j) q refl x.1

    after_tried : (h : ℕ) (y : L.M.Outside) (r : Run L) (op : L.M.Op) (ps : L.M.Answer op → List (ℕ × L.M.Step)) (k : L.M.Answer op → P L.M L.Reply) (x : ExecResult (L.M.Answer op) L.M.World) → s.running h ≡ Some r
        → IsTraced L (And V s.now (Step h y) (tried L h s r op ps k x).came) (tried L h s r op ps k x).after
    after_tried h y r op ps k Waits is = quietly (Step h y) DidWait (λ y. (let c : DidWait ≡ DidEnd y.0 = y.1 in cc))
    after_tried h y r op ps k (Ran a w) is = after_moved h y r (op, a) (ps a) (k a) w is
    after_tried h y r op ps k (Stops w) is =
        no_reply (Step h y) DidStop (tried L h s r op ps k (Stops w)).after (λ y. (let c : DidStop ≡ DidEnd y.0 = y.1 in cc)) refl (λ j q e. inl (t.under_way j q e))

    after_prog : (h : ℕ) (y : L.M.Outside) (r : Run L) (p : P L.M L.Reply) → s.running h ≡ Some r → IsTraced L (And V s.now (Step h y) (step_prog L h y s r p).came) (step_prog L h y s r p).after
    after_prog h y r (Ret reply) is = quietly (Step h y) WasIdle (λ y. (let c : WasIdle ≡ DidEnd y.0 = y.1 in cc))
    after_prog h y r (Do op m k) is = after_tried h y r op (λ a. L.M.places h op a (m a) s.world) k (L.M.go h y op m s.world) is

    after_unless : (h : ℕ) (y : L.M.Outside) (r : Run L) (b : Bool) → s.running h ≡ Some r → IsTraced L (And V s.now (Step h y) (step_unless L h y s b r).came) (step_unless L h y s b r).after
    after_unless h y r true is = quietly (Step h y) WasStopped (λ y. (let c : WasStopped ≡ DidEnd y.0 = y.1 in cc))
    after_unless h y r false is = after_prog h y r r.prog is

    after_step : (h : ℕ) (y : L.M.Outside) (x : Option (Run L)) → s.running h ≡ x → IsTraced L (And V s.now (Step h y) (step_run L h y s x).came) (step_run L h y s x).after
    after_step h y None is = quietly (Step h y) WasIdle (λ y. (let c : WasIdle ≡ DidEnd y.0 = y.1 in cc))
    after_step h y (Some r) is = after_unless h y r s.stopped is

    after_begun : (h : ℕ) (call : L.Call) (x : Began L.Refusal L.M.World) → IsTraced L (And V s.now (Start h call) (begun L h call s x).came) (begun L h call s x).after
    after_begun h call (Refuses why) = quietly (Start h call) (Refused why) (λ y. (let c : Refused why ≡ DidEnd y.0 = y.1 in cc))
    after_begun h call (Begins w) =
        no_reply (Start h call) Started (begun L h call s (Begins w)).after (λ y. (let c : Started ≡ DidEnd y.0 = y.1 in cc)) refl (λ j q e. at j q (changed_tells s.running h (Some new) j (Some q) e))
      where
        new : Run L
        new = record { call = call; start = s.now; prog = L.program call; count = 0; done = [] }

        at : (j : ℕ) (q : Run L) → ((j ≡ h) × (Some new ≡ Some q)) ⊎ ((j ≢ h) × (s.running j ≡ Some q)) → And V s.now (Start h call) Started (record { number = q.start; event = Start j q.call; came = Started })
        at j q (inl x) = inr (shown j q x.0 (sym (Some-inj new q x.1)))
          where
            shown : (j : ℕ) (q : Run L) → j ≡ h → q ≡ new → ◌≡◌ {A = EventReport L} (record { number = q.start; event = Start j q.call; came = Started }) (record { number = s.now; event = Start h call; came = Started })
            shown j q e f = λ i. record { number = (f i).start; event = Start (e i) (f i).call; came = Started }
        at j q (inr x) = inl (t.under_way j q x.1)

    after_start : (h : ℕ) (call : L.Call) (x : Option (Run L)) → IsTraced L (And V s.now (Start h call) (start_run L h call s x).came) (start_run L h call s x).after
    after_start h call (Some r) = quietly (Start h call) (Refused L.busy) (λ y. (let c : Refused L.busy ≡ DidEnd y.0 = y.1 in cc))
    after_start h call None = after_begun h call (L.start h call (busy_in L s) s.world)

    after_event : (e : Event L.Call L.M.Outside) → IsTraced L (And V s.now e (makes L e s).came) (next L e s)
    after_event (Start h call) = after_start h call (s.running h)
    after_event (Step h y) = after_step h y (s.running h) refl

  after_run : (es : List (Event L.Call L.M.Outside)) (V : EventReport L → Type 0) (s : State L) → IsTraced L V s → IsTraced L (λ x. V x ⊎ In x (happened L es s)) (run L es s)
  after_run [] V s t = same_set V (λ x. V x ⊎ ⊥) s (λ x v. inl v) (λ x v. back x v) t
    where
      back : (x : EventReport L) → V x ⊎ ⊥ → V x
      back x (inl v) = v
      back x (inr v) = absurd v
  after_run (e ∷ es) V s t =
      same_set (λ x. And V s.now e (makes L e s).came x ⊎ In x (happened L es (next L e s))) (λ x. V x ⊎ In x (happened L (e ∷ es) s)) (run L es (next L e s)) to back
      (after_run es (And V s.now e (makes L e s).came) (next L e s) (after_event V s t e))
    where
      to : (x : EventReport L) → And V s.now e (makes L e s).came x ⊎ In x (happened L es (next L e s)) → V x ⊎ In x (happened L (e ∷ es) s)
      to x (inl (inl v)) = inl v
      to x (inl (inr q)) = inr (inl q)
      to x (inr i) = inr (inr i)

      back : (x : EventReport L) → V x ⊎ In x (happened L (e ∷ es) s) → And V s.now e (makes L e s).came x ⊎ In x (happened L es (next L e s))
      back x (inl v) = inl (inl v)
      back x (inr (inl q)) = inl (inr q)
      back x (inr (inr i)) = inr i

  -- over any list of events
  pub traced : (w : L.M.World) (es : List (Event L.Call L.M.Outside)) → IsTraced L (λ x. In x (happened L es (fresh L w))) (run L es (fresh L w))
  traced w es =
      same_set (λ x. ⊥ ⊎ In x (happened L es (fresh L w))) (λ x. In x (happened L es (fresh L w))) (run L es (fresh L w)) to (λ x i. inr i)
      (after_run es (λ x. ⊥) (fresh L w)
      (record {
        reported = λ x v h y reply e c. absurd v;
        started = λ f i. absurd i;
        ended = λ f i. absurd i;
        under_way = λ h r e. (let c : ◌≡◌ {A = Option (Run L)} None (Some r) = e in cc);
      }))
    where
      to : (x : EventReport L) → ⊥ ⊎ In x (happened L es (fresh L w)) → In x (happened L es (fresh L w))
      to x (inl v) = absurd v
      to x (inr i) = i
