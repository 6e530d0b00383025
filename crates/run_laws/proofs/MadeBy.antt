-- What a step makes of a state, by its hart's call and by the outcome of the operation.
use Rattle.run_laws.proofs.Vocabulary.{◌≡◌, ℕ, suc, Option, Some, None, Bool, true, false, List, [], refl, ◌∙◌, ap, Prog, Ret, Do, ExecResult, PartOf as P, OpWithAnswer, own, onto, Theory, Run, State, Step, WasIdle, WasStopped, DidRun, Made, changed, placed, all_told, unchanged, moved, tried, step_prog, step_unless, step_run, makes, MoveMachine, Reply, theory_of, IsAtEnd, Version}
use Rattle.inode_machine.specs.Kept as kept

module _ (T : Theory) (h : ℕ) (s : State T) where
  module _ (x : T.M.Outside) where
    pub idle_is : s.running h ≡ None → ◌≡◌ {A = Made T} (makes T (Step h x) s) (record { came = WasIdle; after = unchanged T s })
    idle_is e = ap (λ (o : Option (Run T)). step_run T h x s o) e

    pub stopped_is : (r : Run T) → s.running h ≡ Some r → s.stopped ≡ true → ◌≡◌ {A = Made T} (makes T (Step h x) s) (record { came = WasStopped; after = unchanged T s })
    stopped_is r e on = ap (λ (o : Option (Run T)). step_run T h x s o) e ∙ ap (λ (b : Bool). step_unless T h x s b r) on

    pub tried_is : (r : Run T) (op : T.M.Op) (m : T.M.Answer op → Option T.M.Mark) (k : T.M.Answer op → P T.M T.Reply) (v : T.M.World) (d : ExecResult (T.M.Answer op) T.M.World)
        → s.running h ≡ Some r → s.stopped ≡ false → r.prog ≡ Do op m k → s.world ≡ v → T.M.go h x op m v ≡ d → ◌≡◌ {A = Made T} (makes T (Step h x) s) (tried T h s r op (λ a. T.M.places h op a (m a) v) k d)
    tried_is r op m k v d e on asks at came =
        ap (λ (o : Option (Run T)). step_run T h x s o) e
        ∙ ap (λ (b : Bool). step_unless T h x s b r) on
        ∙ ap (λ (p : P T.M T.Reply). step_prog T h x s r p) asks
        ∙ ap (λ (z : T.M.World). tried T h s r op (λ a. T.M.places h op a (m a) z) k (T.M.go h x op m z)) at
        ∙ ap (λ (z : ExecResult (T.M.Answer op) T.M.World). tried T h s r op (λ a. T.M.places h op a (m a) v) k z) came

  -- the call goes on with this program
  abbrev pub went_on : Run T → OpWithAnswer T.M → List (ℕ × T.M.Step) → P T.M T.Reply → T.M.World → Made T
  went_on r did ps p w =
      record {
        came = DidRun did;
        after =
            record {
              world = w;
              stopped = s.stopped;
              running = changed (all_told T ps s.running) h (Some (record { call = r.call; start = r.start; prog = p; count = suc r.count; done = onto (own h ps) r.done }));
              list = placed T s.now s.running ps s.list;
              finished = s.finished;
              now = suc s.now;
            };
      }

  pub moved_on : (r : Run T) (did : OpWithAnswer T.M) (ps : List (ℕ × T.M.Step)) (p : P T.M T.Reply) (w : T.M.World) → (IsAtEnd p → ⊥) → moved T h s r did ps p w ≡ went_on r did ps p w
  moved_on r did ps (Ret reply) w goes = absurd (goes tt)
  moved_on r did ps (Do op m k) w goes = refl

-- what it places
module _ (version : Version) (N : MoveMachine) (h : ℕ) (x : N.Outside) (s : State (theory_of version N)) where
  pub idle_places : s.running h ≡ None → kept.placed version N (Step h x) s ≡ []
  idle_places e = ap (λ (o : Option (Run (theory_of version N))). kept.placed_run version N h x s o) e

  pub stopped_places : (r : Run (theory_of version N)) → s.running h ≡ Some r → s.stopped ≡ true → kept.placed version N (Step h x) s ≡ []
  stopped_places r e on =
      ap (λ (o : Option (Run (theory_of version N))). kept.placed_run version N h x s o) e ∙ ap (λ (b : Bool). kept.placed_unless N h x s.world b r.prog) on

  pub tried_places : (r : Run (theory_of version N)) (op : N.Op) (m : N.Answer op → Option N.Mark) (k : N.Answer op → Prog N.Op N.Answer N.Mark Reply) (d : ExecResult (N.Answer op) N.World)
      → s.running h ≡ Some r → s.stopped ≡ false → r.prog ≡ Do op m k → N.go h x op m s.world ≡ d → kept.placed version N (Step h x) s ≡ kept.placed_tried N (λ a. N.places h op a (m a) s.world) d
  tried_places r op m k d e on asks came =
      ap (λ (o : Option (Run (theory_of version N))). kept.placed_run version N h x s o) e
      ∙ ap (λ (b : Bool). kept.placed_unless N h x s.world b r.prog) on
      ∙ ap (λ (p : Prog N.Op N.Answer N.Mark Reply). kept.placed_prog N h x s.world p) asks
      ∙ ap (λ (z : ExecResult (N.Answer op) N.World). kept.placed_tried N (λ a. N.places h op a (m a) s.world) z) came
