-- What a run shows of its calls, event by event, matches the calls that its state has.
use Rattle.run_laws.proofs.Vocabulary.{◌≡◌, ◌≢◌, ◌⊎◌, inl, inr, ℕ, suc, ◌&&◌, ◌==◌, if◌then◌else◌, Bool, true, false, Option, Some, None, List, [], ◌∷◌, ◌++◌, map, refl, sym, ◌∙◌, ap, subst, arith, Super, Reply, Call, Trace, TracedCall, Shown, ends_at, no_calls, noted, trace_from, Other, no_fd as is_nothing, eq_is, eq_isnt, same_or, Theory, Began, Refuses, Begins, EventOf, FinishedCall, Run, Start, Step, State, all_told, begun, busy_in, fresh, makes, moved, next, outcomes, run, start_run, step_prog, step_run, step_unless, told, tried, unchanged, EventOutcome, In, Both, PartOf as P, OpWithAnswer, own, onto, Ret, Do, ExecResult, Waits, Ran, Stops, Some-inj, changed_other, changed_same, Outside, shown_by, Refusal, World, block_calls, lowered_inode_calls}
use Rattle.inode_machine.specs.World as above

in_append : {A : Type 0} (c x : A) (xs : List A) → In c (xs ++ x ∷ []) → In c xs ⊎ (c ≡ x)
in_append c x [] (inl e) = inr e
in_append c x [] (inr i) = absurd i
in_append c x (y ∷ ys) (inl e) = inl (inl e)
in_append c x (y ∷ ys) (inr i) = elim (in_append c x ys i) [
  | inl j ↦ inl (inr j)
  | inr e ↦ inr e
]

in_map : {A B : Type 0} (f : A → B) (c : B) (xs : List A) → In c (map f xs) → (d : A) × In d xs × (c ≡ f d)
in_map f c [] i = absurd i
in_map f c (x ∷ xs) (inl e) = (x, inl refl, e)
in_map f c (x ∷ xs) (inr i) = let r = in_map f c xs i in (r.0, inr r.1, r.2)

module _ (sizes : Super) where
  abbrev N : Theory
  N = lowered_inode_calls sizes

  -- a call of the trace is one that finished with its reply, or its hart's call under way
  abbrev pub Matched : State (lowered_inode_calls sizes) → TracedCall → Option (ℕ × Reply) → Type 0
  Matched s c (Some r) = (f : FinishedCall (lowered_inode_calls sizes)) × In f s.finished × (f.call ≡ c.call) × (f.start ≡ c.start) × (f.reply ≡ r.1)
  Matched s c None = (q : Run (lowered_inode_calls sizes)) × (s.running c.hart ≡ Some q) × (q.call ≡ c.call) × (q.start ≡ c.start)

  pub record Matches (s : State (lowered_inode_calls sizes)) (t : Trace) : Type 0 where
    pub now : t.events ≡ s.now
    pub calls : (c : TracedCall) → In c t.calls → Matched s c c.finished

  -- hart j's call goes on
  abbrev GoesOn : State N → Run N → ℕ → Type 0
  GoesOn u q j = (p : Run N) × (u.running j ≡ Some p) × (p.call ≡ q.call) × (p.start ≡ q.start)

  still : (s u : State N) (c : TracedCall) (o : Option (ℕ × Reply)) → ((f : FinishedCall N) → In f s.finished → In f u.finished) → ((q : Run N) → s.running c.hart ≡ Some q → GoesOn u q c.hart) → Matched s c o → Matched u c o
  still s u c (Some r) kept goes m = (m.0, kept m.0 m.1, m.2, m.3, m.4)
  still s u c None kept goes m = let g = goes m.0 m.1 in (g.0, g.1, g.2 ∙ m.2, g.3 ∙ m.3)

  -- an event that starts no call and gives no reply
  other : (s u : State N) (t : Trace) → u.now ≡ suc s.now → ((f : FinishedCall N) → In f s.finished → In f u.finished) → ((j : ℕ) (q : Run N) → s.running j ≡ Some q → GoesOn u q j) → Matches s t → Matches u (noted t Other)
  other s u t now kept goes m = record { now = (let a : t.events ≡ s.now = m.now in omega (arith, a, now)); calls = λ c i. still s u c c.finished kept (λ q is. goes c.hart q is) (m.calls c i) }

  quiet : (s : State N) (t : Trace) → Matches s t → Matches (unchanged N s) (noted t Other)
  quiet s t m = other s (unchanged N s) t refl (λ f i. i) (λ j q is. (q, is, refl, refl)) m

  -- ---- a start

  begun_matches : (h : ℕ) (call : Call) (s : State N) (t : Trace) (b : Began Refusal (Both World above.World)) → s.running h ≡ None → Matches s t → Matches (begun N h call s b).after (noted t (shown_by {Outside = Outside} (Start h call) (begun N h call s b).came))
  begun_matches h call s t (Refuses why) none m = quiet s t m
  begun_matches h call s t (Begins w) none m = record { now = (let a : t.events ≡ s.now = m.now in omega (arith, a)); calls = λ c i. at c (in_append c new t.calls i) }
    where
      u : State N
      u = (begun N h call s (Begins w)).after

      new : TracedCall
      new = record { hart = h; start = t.events; call = call; finished = None }

      first : Run N
      first = record { call = call; start = s.now; prog = N.program call; count = 0; done = [] }

      apart : (j : ℕ) (q : Run N) → s.running j ≡ Some q → j ≢ h
      apart j q is e = let c : ◌≡◌ {A = Option (Run N)} None (Some q) = sym none ∙ ap s.running (sym e) ∙ is in cc

      at : (c : TracedCall) → In c t.calls ⊎ (c ≡ new) → Matched u c c.finished
      at c (inl i) = still s u c c.finished (λ f k. k) (λ q is. (q, changed_other s.running h (Some first) c.hart (apart c.hart q is) ∙ is, refl, refl)) (m.calls c i)
      at c (inr e) = subst (λ (z : TracedCall). Matched u z z.finished) (sym e) (first, changed_same s.running h (Some first) h refl, refl, sym m.now)

  start_matches : (h : ℕ) (call : Call) (s : State N) (t : Trace) (o : Option (Run N)) → s.running h ≡ o → Matches s t → Matches (start_run N h call s o).after (noted t (shown_by {Outside = Outside} (Start h call) (start_run N h call s o).came))
  start_matches h call s t (Some r) is m = quiet s t m
  start_matches h call s t None is m = begun_matches h call s t (N.start h call (busy_in N s) s.world) is m

  -- ---- a step

  told_on : (xs : List N.M.Step) (o : Option (Run N)) (q : Run N) → o ≡ Some q → (p : Run N) × (told N xs o ≡ Some p) × (p.call ≡ q.call) × (p.start ≡ q.start)
  told_on xs None q e = absurd (none_some e)
    where
      none_some : ◌≡◌ {A = Option (Run N)} None (Some q) → ⊥
      none_some e = cc
  told_on xs (Some r) q e = (record r { done = onto xs r.done }, refl, ap (λ (z : Run N). z.call) (Some-inj r q e), ap (λ (z : Run N). z.start) (Some-inj r q e))

  moved_matches : (h : ℕ) (x : Outside) (s : State N) (t : Trace) (r : Run N) (did : OpWithAnswer N.M) (ps : List (ℕ × N.M.Step)) (p : P N.M Reply) (w : Both World above.World) → s.running h ≡ Some r → Matches s t
      → Matches (moved N h s r did ps p w).after (noted t (shown_by (Step h x) (moved N h s r did ps p w).came))
  moved_matches h x s t r did ps (Do op m k) w is e = other s (moved N h s r did ps (Do op m k) w).after t refl (λ f i. i) (λ j q run. at j q run (same_or j h)) e
    where
      new : Run N
      new = record { call = r.call; start = r.start; prog = Do op m k; count = suc r.count; done = onto (own h ps) r.done }

      at : (j : ℕ) (q : Run N) → s.running j ≡ Some q → (j ≡ h) ⊎ (j ≢ h) → GoesOn (moved N h s r did ps (Do op m k) w).after q j
      at j q run (inl same) =
          let one : r ≡ q = Some-inj r q (sym is ∙ ap s.running (sym same) ∙ run) in
          (new, changed_same (all_told N ps s.running) h (Some new) j same, ap (λ (z : Run N). z.call) one, ap (λ (z : Run N). z.start) one)
      at j q run (inr apart) =
          let g = told_on (own j ps) (s.running j) q run in
          (g.0, changed_other (all_told N ps s.running) h (Some new) j apart ∙ g.1, g.2, g.3)
  moved_matches h x s t r did ps (Ret reply) w is e = record { now = (let a : t.events ≡ s.now = e.now in omega (arith, a)); calls = λ c i. let d = in_map (ends_at h reply t.events) c t.calls i in subst (λ (z : TracedCall). Matched u z z.finished) (sym d.2) (at d.0 d.0.finished ((d.0).hart == h) refl refl (e.calls d.0 d.1)) }
    where
      ended : FinishedCall N
      ended = record { hart = h; call = r.call; start = r.start; number = s.now; count = suc r.count; reply = reply }

      u : State N
      u = (moved N h s r did ps (Ret reply) w).after

      kept : (d : TracedCall) → d.hart ≢ h → (q : Run N) → s.running d.hart ≡ Some q → GoesOn u q d.hart
      kept d apart q run =
          let g = told_on (own d.hart ps) (s.running d.hart) q run in
          (g.0, changed_other (all_told N ps s.running) h None d.hart apart ∙ g.1, g.2, g.3)

      finished_on : (d : TracedCall) (a : ℕ × Reply) → Matched s d (Some a) → Matched u d (Some a)
      finished_on d a k = (k.0, inr k.1, k.2, k.3, k.4)

      end_if : Bool → Option (ℕ × Reply) → TracedCall → TracedCall
      end_if b o d = if b && is_nothing o then record d { finished = Some (t.events, reply) } else d

      at : (d : TracedCall) (o : Option (ℕ × Reply)) (b : Bool) → d.finished ≡ o → (d.hart == h) ≡ b → Matched s d d.finished → Matched u (end_if b o d) (end_if b o d).finished
      at d (Some a) true is_o is_b k = subst (Matched u d) (sym is_o) (finished_on d a (subst (Matched s d) is_o k))
      at d (Some a) false is_o is_b k = subst (Matched u d) (sym is_o) (finished_on d a (subst (Matched s d) is_o k))
      at d None false is_o is_b k = subst (Matched u d) (sym is_o) (still s u d None (λ f i. inr i) (kept d (eq_isnt d.hart h is_b)) (subst (Matched s d) is_o k))
      at d None true is_o is_b k =
          let q = subst (Matched s d) is_o k in
          let one : r ≡ q.0 = Some-inj r q.0 (sym is ∙ ap s.running (sym (eq_is d.hart h is_b)) ∙ q.1) in
          (ended, inl refl, ap (λ (z : Run N). z.call) one ∙ q.2, ap (λ (z : Run N). z.start) one ∙ q.3, refl)

  tried_matches : (h : ℕ) (x : Outside) (s : State N) (t : Trace) (r : Run N) (op : N.M.Op) (ps : N.M.Answer op → List (ℕ × N.M.Step)) (k : N.M.Answer op → P N.M Reply) (d : ExecResult (N.M.Answer op) (Both World above.World)) → s.running h ≡ Some r → Matches s t
      → Matches (tried N h s r op ps k d).after (noted t (shown_by (Step h x) (tried N h s r op ps k d).came))
  tried_matches h x s t r op ps k Waits is m = quiet s t m
  tried_matches h x s t r op ps k (Ran a w) is m = moved_matches h x s t r (op, a) (ps a) (k a) w is m
  tried_matches h x s t r op ps k (Stops w) is m = other s (tried N h s r op ps k (Stops w)).after t refl (λ f i. i) (λ j q run. (q, run, refl, refl)) m

  prog_matches : (h : ℕ) (x : Outside) (s : State N) (t : Trace) (r : Run N) (p : P N.M Reply) → s.running h ≡ Some r → Matches s t → Matches (step_prog N h x s r p).after (noted t (shown_by (Step h x) (step_prog N h x s r p).came))
  prog_matches h x s t r (Ret reply) is m = quiet s t m
  prog_matches h x s t r (Do op mk k) is m = tried_matches h x s t r op (λ a. N.M.places h op a (mk a) s.world) k (N.M.go h x op mk s.world) is m

  unless_matches : (h : ℕ) (x : Outside) (s : State N) (t : Trace) (b : Bool) (r : Run N) → s.running h ≡ Some r → Matches s t → Matches (step_unless N h x s b r).after (noted t (shown_by (Step h x) (step_unless N h x s b r).came))
  unless_matches h x s t true r is m = quiet s t m
  unless_matches h x s t false r is m = prog_matches h x s t r r.prog is m

  step_matches : (h : ℕ) (x : Outside) (s : State N) (t : Trace) (o : Option (Run N)) → s.running h ≡ o → Matches s t → Matches (step_run N h x s o).after (noted t (shown_by (Step h x) (step_run N h x s o).came))
  step_matches h x s t None is m = quiet s t m
  step_matches h x s t (Some r) is m = unless_matches h x s t s.stopped r is m

  next_matches : (e : EventOf Call Outside) (s : State N) (t : Trace) → Matches s t → Matches (next N e s) (noted t (shown_by e (makes N e s).came))
  next_matches (Start h call) s t m = start_matches h call s t (s.running h) refl m
  next_matches (Step h x) s t m = step_matches h x s t (s.running h) refl m

  -- what events with these outcomes show
  abbrev pub all_shown_by : List (EventOf Call Outside) → List (EventOutcome (block_calls sizes)) → List Shown
  all_shown_by [] os = []
  all_shown_by (e ∷ es) [] = []
  all_shown_by (e ∷ es) (o ∷ os) = shown_by e o ∷ all_shown_by es os

  run_matches : (es : List (EventOf Call Outside)) (s : State N) (t : Trace) → Matches s t → Matches (run N es s) (trace_from t (all_shown_by es (outcomes N es s)))
  unfolding trace_from
  run_matches [] s t m = m
  run_matches (e ∷ es) s t m = run_matches es (next N e s) (noted t (shown_by e (makes N e s).came)) (next_matches e s t m)

  pub traced_matches : (w : Both World above.World) (es : List (EventOf Call Outside)) → Matches (run (lowered_inode_calls sizes) es (fresh (lowered_inode_calls sizes) w)) (trace_from no_calls (all_shown_by es (outcomes (lowered_inode_calls sizes) es (fresh (lowered_inode_calls sizes) w))))
  traced_matches w es = run_matches es (fresh N w) no_calls (record { now = refl; calls = λ c i. absurd i })
