-- A machine's step in its place is a step of its hart's program.
use Rattle.atomic_programs.proofs.Vocabulary.{◌≡◌, ◌<◌, ℕ, Option, Some, None, Bool, true, false, List, refl, sym, ◌∙◌, ap, length, get_or, set, get_or-set_same, get_or-set_other, eqb-true, eqb-false, nat_eq, if◌then◌else◌, Ret, Do, ExecResult, Waits, Ran, Stops, OperationResult, Ended, StillWaits, WentOn, Broke, went, advance, Theory, Began, Refuses, Begins, Start, Step, Refused, is_some, Outcome, WasIdle, DidWait, DidRun, DidEnd, DidStop, WasStopped, changed, UnmarkedProgram, Code, Plain, PlainMade, HartMade, plain_moved, plain_tried, plain_prog, plain_unless, plain_step, plain_begun, plain_start, plain_makes, hart_begun, hart_start, hart_moved, hart_tried, hart_prog, hart_step, put_back, program_at, programs_in}

-- one place of the table was set
pub programs_in-set : {M T : Type 0} (program : M → T) (calls : List (Option M)) (h : ℕ) (x : Option M) → h < length calls
    → programs_in program (set calls h x) ≡ changed (programs_in program calls) h (program_at program x)
programs_in-set {M} {T} program calls h x lt = λ i k. at k (nat_eq k h) refl i
  where
    at : (k : ℕ) (b : Bool) → nat_eq k h ≡ b → program_at program (get_or (set calls h x) k None) ≡ (if b then program_at program x else program_at program (get_or calls k None))
    at k true e = ap (program_at program) (rw (eqb-true k h e) (get_or-set_same calls h x None lt))
    at k false e = ap (program_at program) (get_or-set_other calls h k x None (eqb-false k h e))

module _ (L : Theory) (C : Code L) where
  same_changed : {A : Type 0} (f : ℕ → A) (h : ℕ) (x : A) → f h ≡ x → changed f h x ≡ f
  same_changed {A} f h x e = λ i k. at k (nat_eq k h) refl i
    where
      at : (k : ℕ) (b : Bool) → nat_eq k h ≡ b → (if b then x else f k) ≡ f k
      at k true q = sym e ∙ ap f (sym (eqb-true k h q))
      at k false q = refl

  pub changed_twice : {A : Type 0} (f : ℕ → A) (h : ℕ) (x y : A) → changed (changed f h x) h y ≡ changed f h y
  changed_twice {A} f h x y = λ i k. at k (nat_eq k h) i
    where
      at : (k : ℕ) (b : Bool) → (if b then y else (if b then x else f k)) ≡ (if b then y else f k)
      at k true = refl
      at k false = refl

  module _ (h : ℕ) (y : L.M.Outside) (s : Plain L C) where
    -- the hart's own part put back into its place is the whole
    same : (p : Option (UnmarkedProgram L)) (t : C.Shared) (b : Bool) (came : Outcome C.Kind L.Reply L.Refusal) → s.running h ≡ p
        → ◌≡◌ {A = PlainMade L C} (record { came = came; after = record { shared = t; stopped = b; running = s.running } }) (put_back L C h s (record { came = came; left = p; shared = t; stopped = b }))
    same p t b came e = λ i. record { came = came; after = record { shared = t; stopped = b; running = sym (same_changed s.running h p e) i } }

    moved_back : (kind : C.Kind) (q : UnmarkedProgram L) (t : C.Shared) → s.stopped ≡ false → plain_moved L C h s kind q t ≡ put_back L C h s (hart_moved L C false kind q t)
    moved_back kind (Ret a) t on = λ i. record { came = DidEnd a; after = record { shared = t; stopped = on i; running = changed s.running h None } }
    moved_back kind (Do op m k) t on = λ i. record { came = DidRun kind; after = record { shared = t; stopped = on i; running = changed s.running h (Some (Do op m k)) } }

    tried_back : (p : UnmarkedProgram L) (op : L.M.Op) (k : L.M.Answer op → UnmarkedProgram L) (x : ExecResult (L.M.Answer op) C.Shared) → s.stopped ≡ false → s.running h ≡ Some p
        → plain_tried L C h s op k x ≡ put_back L C h s (hart_tried L C p s.shared op k x)
    tried_back p op k Waits on e = (λ i. record { came = DidWait; after = record { shared = s.shared; stopped = on i; running = s.running } }) ∙ same (Some p) s.shared false DidWait e
    tried_back p op k (Ran a t) on e = moved_back (C.kind op a) (k a) t on
    tried_back p op k (Stops t) on e = same (Some p) t true DidStop e

    prog_back : (p : UnmarkedProgram L) → s.stopped ≡ false → s.running h ≡ Some p → plain_prog L C h y s p ≡ put_back L C h s (hart_prog L C h y s.shared p)
    prog_back (Ret a) on e = (λ i. record { came = WasIdle; after = record { shared = s.shared; stopped = on i; running = s.running } }) ∙ same (Some (Ret a)) s.shared false WasIdle e
    prog_back (Do op m k) on e = tried_back (Do op m k) op k (C.exec h y op s.shared) on e

    unless_back : (b : Bool) (p : UnmarkedProgram L) → s.stopped ≡ b → s.running h ≡ Some p → plain_unless L C h y s b p ≡ put_back L C h s (hart_step L C h y s.shared b (Some p))
    unless_back true p on e = (λ i. record { came = WasStopped; after = record { shared = s.shared; stopped = on i; running = s.running } }) ∙ same (Some p) s.shared true WasStopped e
    unless_back false p on e = prog_back p on e

    step_back : (x : Option (UnmarkedProgram L)) → s.running h ≡ x → plain_step L C h y s x ≡ put_back L C h s (hart_step L C h y s.shared s.stopped x)
    step_back None e = same None s.shared s.stopped WasIdle e
    step_back (Some p) e = unless_back s.stopped p refl e

    -- a hart's step in its place
    pub hart_steps : (m : HartMade L C) → hart_step L C h y s.shared s.stopped (s.running h) ≡ m → plain_makes L C (Step h y) s ≡ put_back L C h s m
    hart_steps m e = step_back (s.running h) refl ∙ ap (put_back L C h s) e

  module _ (h : ℕ) (s : Plain L C) where
    begun_back : (call : L.Call) (x : Began L.Refusal C.Shared) → s.running h ≡ None → plain_begun L C h call s x ≡ put_back L C h s (hart_begun L C call s.shared s.stopped x)
    begun_back call (Refuses why) e = λ i. record { came = Refused why; after = record { shared = s.shared; stopped = s.stopped; running = sym (same_changed s.running h None e) i } }
    begun_back call (Begins t) e = refl

    start_back : (call : L.Call) (x : Option (UnmarkedProgram L)) → s.running h ≡ x → plain_start L C h call s x ≡ put_back L C h s (hart_start L C h call (λ j. is_some (s.running j)) s.shared s.stopped x)
    start_back call None e = begun_back call (C.begin h call (λ j. is_some (s.running j)) s.shared) e
    start_back call (Some p) e = λ i. record { came = Refused L.busy; after = record { shared = s.shared; stopped = s.stopped; running = sym (same_changed s.running h (Some p) e) i } }

    -- a start in its place
    pub hart_starts : (call : L.Call) (m : HartMade L C) → hart_start L C h call (λ j. is_some (s.running j)) s.shared s.stopped (s.running h) ≡ m → plain_makes L C (Start h call) s ≡ put_back L C h s m
    hart_starts call m e = start_back call (s.running h) refl ∙ ap (put_back L C h s) e

  -- what a program's operation is to its hart
  abbrev pub by_moved : UnmarkedProgram L → C.Shared → OperationResult C.Kind (UnmarkedProgram L) C.Shared → HartMade L C
  by_moved p t Ended = record { came = WasIdle; left = Some p; shared = t; stopped = false }
  by_moved p t StillWaits = record { came = DidWait; left = Some p; shared = t; stopped = false }
  by_moved p t (WentOn kind q u) = hart_moved L C false kind q u
  by_moved p t (Broke u) = record { came = DidStop; left = Some p; shared = u; stopped = true }

  pub hart_advances : (h : ℕ) (y : L.M.Outside) (t : C.Shared) (p : UnmarkedProgram L) (r : OperationResult C.Kind (UnmarkedProgram L) C.Shared)
      → advance C.kind (C.exec h y) p t ≡ r → hart_step L C h y t false (Some p) ≡ by_moved p t r
  hart_advances h y t (Ret a) r e = ap (by_moved (Ret a) t) e
  hart_advances h y t (Do op m f) r e = at (C.exec h y op t) ∙ ap (by_moved (Do op m f) t) e
    where
      at : (x : ExecResult (L.M.Answer op) C.Shared) → hart_tried L C (Do op m f) t op f x ≡ by_moved (Do op m f) t (went op (C.kind op) f x)
      at Waits = refl
      at (Ran a u) = refl
      at (Stops u) = refl
