-- What each event makes of the log and of the marks.
use Rattle.calls_on_blocks.proofs.Vocabulary.{◌≡◌, ◌⊎◌, inl, inr, ℕ, suc, ◌+◌, Bool, true, false, List, Option, Some, None, length, refl, sym, subst, ap, ◌∙◌, arith, Super, Reply, Call, put, Progress, AfterLeave, Marks, is_running, IsCommitMove, begins_at, after_leave, after_write, never, Ret, Do, ExecResult, Waits, Ran, Stops, exec_result_in, asks, OfNext, PartOf as P, Theory, Began, Refuses, Begins, Event, Start, Step, Run, State, HonestStep, IsHonest, busy_in, begun, moved, next, start_run, step_prog, step_run, step_unless, tried, Sound, Both, both, seen_after, ActOf, may_make, sound_keeps, LogPart, Outside, IsWholeLog, After, keeps_whole, machine, World, shared_of, served_calls, child_of, begins, block_calls, began_to, begun_both, marks_by, marks_asked, marks_unless, marks_next, marks_told, at_point, log_at as log_of}
use Rattle.fs_machine.specs.Steps as steps
use Rattle.inode_machine.specs.World as above
use Rattle.inodes_on_blocks.specs.Below as below
use Rattle.calls_on_blocks.proofs.Lawful.{lawful}
use Rattle.calls_on_blocks.proofs.Starting.{begun_here}
use Rattle.calls_on_blocks.proofs.Moves.{itself, log_in, told_same, Goes, Moved, came_to, is_ran, op_goes, same_move}

module _ (sizes : Super) where
  abbrev T : Theory
  T = block_calls sizes

  abbrev pub log_at : State T → LogPart
  log_at = log_of sizes

  -- What an event makes of it: it is whole still, and as long. The event is no leave and no write of a commit; or a
  -- leave that ran; or a write of a commit.
  pub record EventGoes (s t : State T) (m m' : Marks) : Type 0 where
    pub whole : IsWholeLog (log_at t)
    pub long : length (log_at t).contents ≡ length (log_at s).contents
    -- the marks are what the log's phases say
    pub told : marks_told (s.now + 1) (log_at s).phase (at_point (log_at s)) (log_at t).phase m ≡ m'
    pub goes :
        (Moved false false (log_at s) (log_at t) × (m' ≡ m))
        ⊎ (((r : AfterLeave) × Moved (begins_at r) false (log_at s) (log_at t) × (is_running (log_at s).phase ≡ true) × (m' ≡ after_leave s.now r m) × (t.stopped ≡ false))
        ⊎ ((r : Progress) × IsCommitMove itself r (log_in (log_at s)) (log_in (log_at t)) × (is_running (log_at s).phase ≡ true) × (m' ≡ after_write (at_point (log_at s)) r m)))

  nothing_goes : (s t : State T) (m : Marks) → IsWholeLog (log_at s) → log_at t ≡ log_at s → EventGoes s t m m
  nothing_goes s t m whole same = record {
    whole = subst (λ (l : LogPart). IsWholeLog l) (sym same) whole;
    long = ap (λ (l : LogPart). length l.contents) same;
    told = ap (λ (l : LogPart). marks_told (s.now + 1) (log_at s).phase (at_point (log_at s)) l.phase m) same ∙ told_same (s.now + 1) (length (log_at s).group) (log_at s).phase m;
    goes = inl (subst (λ (l : LogPart). Moved false false (log_at s) l) (sym same) (same_move (log_at s)), refl);
  }

  add_one : (k : ℕ) → suc k ≡ k + 1
  add_one k = omega arith

  -- ---- an operation

  goes_to : (h : ℕ) (s t : State T) (m m' : Marks) (whole : IsWholeLog (log_at s)) (A : Type 0) (d : ExecResult A steps.State) → log_at t ≡ (came_to s.world.real.blocks.state d).log → IsWholeLog (came_to s.world.real.blocks.state d).log
      → (is_ran d ≡ true → t.stopped ≡ false) → Goes s.now h s.world.real.blocks.state m whole d m' → EventGoes s t m m'
  goes_to h s t m m' whole A d same after going g = record {
    whole = subst (λ (l : LogPart). IsWholeLog l) (sym same) after;
    long = ap (λ (l : LogPart). length l.contents) same ∙ g.0;
    told = ap (λ (l : LogPart). marks_told (s.now + 1) (log_at s).phase (at_point (log_at s)) l.phase m) same ∙ g.1;
    goes = elim g.2 [
      | inl p ↦ inl (subst (λ (l : LogPart). Moved false false (log_at s) l) (sym same) p.0, p.1)
      | inr rest ↦ elim rest [
        | inl p ↦ inr (inl (p.0, subst (λ (l : LogPart). Moved (begins_at p.0) false (log_at s) l) (sym same) p.1, p.2, p.3, going p.4))
        | inr p ↦ inr (inr (p.0, subst (λ (l : LogPart). IsCommitMove itself p.0 (log_in (log_at s)) (log_in l)) (sym same) p.1, p.2, p.3))
      ]
    ];
  }

  pub moved_world : (h : ℕ) (s : State T) (r : Run T) (did : (op : steps.Op) × steps.Answer op) (ps : List (ℕ × T.M.Step)) (p : P T.M Reply) (w : Both World above.World) → (moved T h s r did ps p w).after.world ≡ w
  moved_world h s r did ps (Ret reply) w = refl
  moved_world h s r did ps (Do op m k) w = refl

  moved_stopped : (h : ℕ) (s : State T) (r : Run T) (did : (op : steps.Op) × steps.Answer op) (ps : List (ℕ × T.M.Step)) (p : P T.M Reply) (w : Both World above.World) → (moved T h s r did ps p w).after.stopped ≡ s.stopped
  moved_stopped h s r did ps (Ret reply) w = refl
  moved_stopped h s r did ps (Do op m k) w = refl

  -- the worlds after an operation that ran
  abbrev pub both_at : ℕ → (op : steps.Op) → (steps.Answer op → Option (ActOf (machine sizes.version))) → Both World above.World → steps.Answer op → steps.State → Both World above.World
  both_at h op mark w a t =
      let o = below.owners_after h op w.real.blocks t in
      record {
        real = record (w.real) { blocks = record { state = t; owner = o.owner; left = o.left; taken = o.taken; commits = below.commits_after h op a w.real.blocks.commits; new = below.new_after h op a t.log w.real.blocks.new } };
        seen = seen_after (machine sizes.version) h (mark a) w.seen;
      }

  op_event : (h : ℕ) (x : Outside) (s : State T) (r : Run T) (op : steps.Op) (mark : steps.Answer op → Option (ActOf (machine sizes.version))) (k : steps.Answer op → P T.M Reply) (m : Marks) → IsWholeLog (log_at s) → s.stopped ≡ false
      → T.M.May h op s.world → T.M.Honest h op s.world x → EventGoes s (step_prog T h x s r (Do op mark k)).after m (marks_asked sizes s.now h x s.world.real.blocks.state (Do op mark k) m)
  op_event h x s r op mark k m whole runs may honest =
      by (steps.exec h x op s.world.real.blocks.state) (keeps_whole h x op s.world.real.blocks.state whole may honest) (op_goes s.now h s.world.real.blocks.state m whole x op may honest)
    where
      m' : Marks
      m' = marks_by s.now (log_at s) op (steps.exec h x op s.world.real.blocks.state) m

      by : (d : ExecResult (steps.Answer op) steps.State) → After (λ (t : steps.State). IsWholeLog t.log) d → Goes s.now h s.world.real.blocks.state m whole d m'
          → EventGoes s (tried T h s r op (λ a. T.M.places h op a (mark a) s.world) k (both (machine sizes.version) h mark s.world.seen (exec_result_in (λ v. record (s.world.real) { blocks = v }) (below.came_to h op s.world.real.blocks d)))).after m m'
      by Waits after g = goes_to h s _ m m' whole (steps.Answer op) Waits refl whole (λ e. runs) g
      by (Ran a t) after g =
          let w = both_at h op mark s.world a t in
          let ps : List (ℕ × T.M.Step) = T.M.places h op a (mark a) s.world in
          goes_to h s (moved T h s r (op, a) ps (k a) w).after m m' whole (steps.Answer op) (Ran a t) (ap (λ (z : Both World above.World). z.real.blocks.state.log) (moved_world h s r (op, a) ps (k a) w)) after (λ e. moved_stopped h s r (op, a) ps (k a) w ∙ runs) g
      by (Stops t) after g = goes_to h s _ m m' whole (steps.Answer op) (Stops t) refl after (λ (e : false ≡ true). never e) g

  -- ---- a step

  prog_event : (h : ℕ) (x : Outside) (s : State T) (r : Run T) (p : P T.M Reply) (m : Marks) → IsWholeLog (log_at s) → s.stopped ≡ false → OfNext (T.M.May h) (asks p) s.world → OfNext (λ op v. T.M.Honest h op v x) (asks p) s.world
      → EventGoes s (step_prog T h x s r p).after m (marks_asked sizes s.now h x s.world.real.blocks.state p m)
  prog_event h x s r (Ret reply) m whole runs may honest = nothing_goes s _ m whole refl
  prog_event h x s r (Do op mark k) m whole runs may honest = op_event h x s r op mark k m whole runs may honest

  unless_event : (h : ℕ) (x : Outside) (s : State T) (r : Run T) (m : Marks) → IsWholeLog (log_at s) → (b : Bool) → s.stopped ≡ b → (s.stopped ≡ false → OfNext (T.M.May h) (asks r.prog) s.world) → HonestStep T h x s.world b (Some r)
      → EventGoes s (step_unless T h x s b r).after m (marks_unless sizes s.now h x s.world.real.blocks.state b (Some r) m)
  unless_event h x s r m whole true is may honest = nothing_goes s _ m whole refl
  unless_event h x s r m whole false is may honest = prog_event h x s r r.prog m whole is (may is) honest

  pub none_marks : (n h : ℕ) (x : Outside) (st : steps.State) (b : Bool) (m : Marks) → marks_unless sizes n h x st b None m ≡ m
  none_marks n h x st true m = refl
  none_marks n h x st false m = refl

  step_event : (h : ℕ) (x : Outside) (s : State T) (m : Marks) → IsWholeLog (log_at s) → (o : Option (Run T)) → ((r : Run T) → s.stopped ≡ false → o ≡ Some r → OfNext (T.M.May h) (asks r.prog) s.world)
      → HonestStep T h x s.world s.stopped o → EventGoes s (step_run T h x s o).after m (marks_unless sizes s.now h x s.world.real.blocks.state s.stopped o m)
  step_event h x s m whole None may honest = subst (λ (z : Marks). EventGoes s (step_run T h x s None).after m z) (sym (none_marks s.now h x s.world.real.blocks.state s.stopped m)) (nothing_goes s _ m whole refl)
  step_event h x s m whole (Some r) may honest = unless_event h x s r m whole s.stopped refl (λ is. may r is refl) honest

  -- ---- a start

  begun_event : (h : ℕ) (call : Call) (s : State T) (m : Marks) → IsWholeLog (log_at s) → (o : Began T.Refusal T.M.World) → T.start h call (busy_in T s) s.world ≡ o → EventGoes s (begun T h call s o).after m m
  begun_event h call s m whole (Refuses why) e = nothing_goes s _ m whole refl
  begun_event h call s m whole (Begins u) e =
      let t : World = record (s.world.real) { children = put s.world.real.children h (child_of call) } in
      let b = begun_both (began_to s.world.seen ((served_calls sizes.version).start h call (busy_in T s) s.world.seen)) (begins sizes h call (busy_in T s) s.world.real) u e in
      nothing_goes s _ m whole (ap (λ (z : World). z.blocks.state.log) (sym (begun_here h call (busy_in T s) (shared_of s.world.real) t u.real b.0).same))

  start_event : (h : ℕ) (call : Call) (s : State T) (m : Marks) → IsWholeLog (log_at s) → (o : Option (Run T)) → EventGoes s (start_run T h call s o).after m m
  start_event h call s m whole (Some r) = nothing_goes s _ m whole refl
  start_event h call s m whole None = begun_event h call s m whole (T.start h call (busy_in T s) s.world) refl

  pub event_goes : (e : Event Call Outside) (s : State T) (m : Marks) → Sound T s → IsWholeLog (log_at s) → IsHonest T e s → EventGoes s (next T e s) m (marks_next sizes e s m)
  event_goes (Start h call) s m sound whole honest = start_event h call s m whole (s.running h)
  event_goes (Step h x) s m sound whole honest =
      step_event h x s m whole (s.running h) (λ r runs is. may_make T (lawful sizes) (T.M.tree sound.first) s (sound_keeps T (lawful sizes) s sound) h r runs is) honest

  -- the sizes stay
  pub goes_sizes : (s t : State T) (m m' : Marks) → EventGoes s t m m' → (log_at t).sizes ≡ (log_at s).sizes
  goes_sizes s t m m' g = elim g.goes [ inl p ↦ p.0.sizes | inr rest ↦ elim rest [ inl p ↦ p.1.sizes | inr p ↦ p.1.move.sizes ] ]

  -- ---- the count of events

  began_now : (h : ℕ) (call : Call) (s : State T) (o : Began T.Refusal T.M.World) → (begun T h call s o).after.now ≡ s.now + 1
  began_now h call s (Refuses why) = add_one s.now
  began_now h call s (Begins u) = add_one s.now

  start_now : (h : ℕ) (call : Call) (s : State T) (o : Option (Run T)) → (start_run T h call s o).after.now ≡ s.now + 1
  start_now h call s (Some r) = add_one s.now
  start_now h call s None = began_now h call s (T.start h call (busy_in T s) s.world)

  moved_now : (h : ℕ) (s : State T) (r : Run T) (did : (op : steps.Op) × steps.Answer op) (ps : List (ℕ × T.M.Step)) (p : P T.M Reply) (w : Both World above.World) → (moved T h s r did ps p w).after.now ≡ s.now + 1
  moved_now h s r did ps (Ret reply) w = add_one s.now
  moved_now h s r did ps (Do op m k) w = add_one s.now

  tried_now : (h : ℕ) (s : State T) (r : Run T) (op : steps.Op) (ps : steps.Answer op → List (ℕ × T.M.Step)) (k : steps.Answer op → P T.M Reply) (d : ExecResult (steps.Answer op) (Both World above.World)) → (tried T h s r op ps k d).after.now ≡ s.now + 1
  tried_now h s r op ps k Waits = add_one s.now
  tried_now h s r op ps k (Ran a w) = moved_now h s r (op, a) (ps a) (k a) w
  tried_now h s r op ps k (Stops w) = add_one s.now

  prog_now : (h : ℕ) (x : Outside) (s : State T) (r : Run T) (p : P T.M Reply) → (step_prog T h x s r p).after.now ≡ s.now + 1
  prog_now h x s r (Ret reply) = add_one s.now
  prog_now h x s r (Do op m k) = tried_now h s r op (λ a. T.M.places h op a (m a) s.world) k (T.M.go h x op m s.world)

  step_now : (h : ℕ) (x : Outside) (s : State T) (b : Bool) (o : Option (Run T)) → b ≡ s.stopped → (step_run T h x s o).after.now ≡ s.now + 1
  step_now h x s b None e = add_one s.now
  step_now h x s b (Some r) e = by s.stopped
    where
      by : (b : Bool) → (step_unless T h x s b r).after.now ≡ s.now + 1
      by true = add_one s.now
      by false = prog_now h x s r r.prog

  pub next_now : (e : Event Call Outside) (s : State T) → (next T e s).now ≡ s.now + 1
  next_now (Start h call) s = start_now h call s (s.running h)
  next_now (Step h x) s = step_now h x s s.stopped (s.running h) refl
