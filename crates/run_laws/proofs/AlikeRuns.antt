-- Two runs of the same events, whose states differ in the log's own blocks alone, go on alike as long as the device doesn't fail.
use Rattle.run_laws.proofs.Vocabulary.{◌≡◌, ◌⊎◌, inl, inr, ℕ, Bool, true, false, List, [], ◌∷◌, if◌then◌else◌, nat_lt, Option, Some, None, refl, sym, ◌∙◌, ap, subst, Super, Reply, Call, hart_count, put, or_else, ActOf, both, seen_after, Ret, Do, ExecResult, Waits, Ran, Stops, exec_result_in, asks, OfNext, Theory, EventOf as Event, Start, Step, Run, State, Made, EventOutcome, AllHonest, OpWithAnswer, Sound, asked, all_asked, began_to, begun, busy_in, makes, moved, next, outcomes, run, start_run, step_prog, step_run, step_unless, tried, inv_of, sound_keeps, sound_run, Outside, MoveMachine, MoveStep, History, kept, kept_on, told_of, Refusal, block_moves, World, block_calls, served_calls, child_of, machine, lawful}
use Rattle.atomic_programs.proofs.Explains.{may_make}
use Rattle.atomic_programs.specs.Logic.{Machine, P}
use Rattle.atomic_programs.specs.Lowered.{began_both}
use Rattle.calls_on_blocks.specs.Layer.{SharedState, shared_of}
use Rattle.calls_on_blocks.specs.Theory.{begun_by, if_hart, others_refusal, refusal_for, reserved, start_refusal}
use Rattle.fs_machine.specs.Steps as steps
use Rattle.fs_machine.specs.Whole.{IsWholeLog}
use Rattle.inode_machine.specs.Kept.{kept_start, kept_step, placed_prog, placed_run, placed_tried, placed_unless}
use Rattle.inode_machine.specs.Theory.{Busy}
use Rattle.inode_machine.specs.World as above
use Rattle.inodes_on_blocks.specs.Below as blocks
use Rattle.plain_tree.specs.declared.call.Call.TheVariants as calls
use Rattle.run_laws.proofs.AlikeLogs.{AlikeStates, HasFailed, Near, exec_near, state_over}

pub record AlikeWorlds (v w : World) : Type 0 where
  pub children : v.children ≡ w.children
  pub states : AlikeStates v.blocks.state w.blocks.state

-- ---- a start sees tables and children alone

module _ (h : ℕ) (busy : ℕ → Bool) (s : steps.State) (c : List (List ℕ)) (n : ℕ) (children : ℕ → Option ℕ) where
  abbrev before : SharedState
  before = record { state = s; children = children }

  abbrev after : SharedState
  after = record { state = state_over c n s; children = children }

  others_same : (call : Call) → others_refusal h call busy before ≡ others_refusal h call busy after
  others_same (calls.Open path flags) = refl
  others_same (calls.Read fd buffer) = refl
  others_same (calls.Write fd bytes) = refl
  others_same (calls.Link old new) = refl
  others_same (calls.Unlink path) = refl
  others_same (calls.Mkdir path) = refl
  others_same (calls.Chdir path) = refl
  others_same (calls.Dup fd) = refl
  others_same (calls.Fstat fd) = refl
  others_same (calls.Close fd) = refl
  others_same (calls.Inherit child) = refl

  start_same : (call : Call) → start_refusal h call busy before ≡ start_refusal h call busy after
  start_same call = ap (λ (o : Option Refusal). or_else (if reserved busy children h then Some Busy else None) (or_else (refusal_for call) o)) (others_same call)

refusal_same : (h : ℕ) (call : Call) (busy : ℕ → Bool) (v w : World) → AlikeWorlds v w
    → start_refusal h call busy (shared_of v) ≡ start_refusal h call busy (shared_of w)
refusal_same h call busy v w alike =
    start_same h busy v.blocks.state alike.states.disk alike.states.count v.children call
    ∙ (λ i. start_refusal h call busy (record { state = alike.states.is i; children = alike.children i }))

module _ (sizes : Super) where
  abbrev L : Theory
  L = block_calls sizes

  abbrev N : MoveMachine
  N = block_moves sizes

  abbrev U : Machine
  U = machine sizes.version

  abbrev pub over : World → State (block_calls sizes) → State (block_calls sizes)
  over r s = record s { world = record { real = r; seen = s.world.seen } }

  -- they differ in the log's blocks, and in what the proof keeps beside the blocks
  abbrev pub Alike : State (block_calls sizes) → State (block_calls sizes) → Type 0
  Alike s t = (r : World) × AlikeWorlds s.world.real r × (over r s ≡ t)

  -- a failure of the device has stopped it
  abbrev pub Broke : State (block_calls sizes) → Type 0
  Broke s = (s.stopped ≡ true) × HasFailed s.world.real.blocks.state

  -- The same came of a step in both, and placed the same; or the device failed.
  abbrev StepOut : Made L → List (ℕ × MoveStep) → Made L → List (ℕ × MoveStep) → Type 0
  StepOut m ps n qs = (Alike m.after n.after × (m.came ≡ n.came) × (ps ≡ qs)) ⊎ (Broke m.after ⊎ Broke n.after)

  module _ (h : ℕ) (s : State L) (r : World) (alike : AlikeWorlds s.world.real r) where
    -- ---- a step

    moved_out : (rn : Run L) (did : OpWithAnswer L.M) (ps : List (ℕ × MoveStep)) (p : P L.M Reply) (v w : World) (g : above.World) → AlikeWorlds v w
        → StepOut (moved L h s rn did ps p (record { real = v; seen = g })) ps (moved L h (over r s) rn did ps p (record { real = w; seen = g })) ps
    moved_out rn did ps (Ret reply) v w g a = inl ((w, a, refl), refl, refl)
    moved_out rn did ps (Do op mark k) v w g a = inl ((w, a, refl), refl, refl)

    module _ (rn : Run L) (op : steps.Op) (mark : steps.Answer op → Option (ActOf U)) (k : steps.Answer op → P L.M Reply) where
      abbrev puts : steps.Answer op → List (ℕ × MoveStep)
      puts a = L.M.places h op a (mark a) s.world

      abbrev of : World → ExecResult (steps.Answer op) steps.State → ExecResult (steps.Answer op) L.M.World
      of w d = both U h mark s.world.seen (exec_result_in (λ v. record w { blocks = v }) (blocks.came_to h op w.blocks d))

      abbrev ran_on : World → steps.Answer op → steps.State → World
      ran_on w a t =
          let o = blocks.owners_after h op w.blocks t in
          record w {
            blocks = record {
              state = t;
              owner = o.owner;
              left = o.left;
              taken = o.taken;
              commits = blocks.commits_after h op a w.blocks.commits;
              new = blocks.new_after h op a t.log w.blocks.new;
            };
          }

      abbrev Out : ExecResult (steps.Answer op) steps.State → ExecResult (steps.Answer op) steps.State → Type 0
      Out d e =
          StepOut (tried L h s rn op puts k (of s.world.real d)) (placed_tried N puts (of s.world.real d))
          (tried L h (over r s) rn op puts k (of r e)) (placed_tried N puts (of r e))

      tried_out : (d e : ExecResult (steps.Answer op) steps.State) → Near d e → Out d e
      tried_out Waits Waits near = inl ((r, alike, refl), refl, refl)
      tried_out Waits (Ran b t) near = absurd near
      tried_out Waits (Stops t) near = inr (inr (refl, near))
      tried_out (Ran a u) Waits near = absurd near
      tried_out (Ran a u) (Ran b t) near =
          subst (λ (z : steps.Answer op). Out (Ran a u) (Ran z t)) near.0
          (moved_out rn (op, a) (puts a) (k a) (ran_on s.world.real a u) (ran_on r a t) (seen_after U h (mark a) s.world.seen)
          (record { children = alike.children; states = near.1 }))
      tried_out (Ran a u) (Stops t) near = inr (inr (refl, near))
      tried_out (Stops u) Waits near = inr (inl (refl, near))
      tried_out (Stops u) (Ran b t) near = inr (inl (refl, near))
      tried_out (Stops u) (Stops t) (inl a) =
          inl ((record r { blocks = record (r.blocks) { state = t } }, record { children = alike.children; states = a }, refl), refl, refl)
      tried_out (Stops u) (Stops t) (inr (inl f)) = inr (inl (refl, f))
      tried_out (Stops u) (Stops t) (inr (inr f)) = inr (inr (refl, f))

    module _ (x y : Outside) where
      prog_out : (rn : Run L) (p : P L.M Reply) → IsWholeLog s.world.real.blocks.state.log → OfNext (L.M.May h) (asks p) s.world
          → StepOut (step_prog L h x s rn p) (placed_prog N h x s.world p) (step_prog L h y (over r s) rn p) (placed_prog N h y (over r s).world p)
      prog_out rn (Ret reply) whole may = inl ((r, alike, refl), refl, refl)
      prog_out rn (Do op mark k) whole may =
          let st = s.world.real.blocks.state in
          tried_out rn op mark k (steps.exec h x op st) (steps.exec h y op r.blocks.state)
          (subst (λ (z : steps.State). Near (steps.exec h x op st) (steps.exec h y op z)) alike.states.is
          (exec_near h st alike.states.disk alike.states.count alike.states.agree whole x y op may))

      -- what holds of its next operation, unless the world has stopped
      abbrev Facts : Run L → Type 0
      Facts rn = IsWholeLog s.world.real.blocks.state.log × OfNext (L.M.May h) (asks rn.prog) s.world

      unless_out : (rn : Run L) (b : Bool) → s.stopped ≡ b → (s.stopped ≡ false → Facts rn)
          → StepOut (step_unless L h x s b rn) (placed_unless N h x s.world b rn.prog)
          (step_unless L h y (over r s) b rn) (placed_unless N h y (over r s).world b rn.prog)
      unless_out rn true is facts = inl ((r, alike, refl), refl, refl)
      unless_out rn false is facts = let f = facts is in prog_out rn rn.prog f.0 f.1

      run_out : (o : Option (Run L)) → ((rn : Run L) → o ≡ Some rn → s.stopped ≡ false → Facts rn)
          → StepOut (step_run L h x s o) (placed_run sizes.version N h x s o) (step_run L h y (over r s) o) (placed_run sizes.version N h y (over r s) o)
      run_out None facts = inl ((r, alike, refl), refl, refl)
      run_out (Some rn) facts = unless_out rn s.stopped refl (facts rn refl)

    -- ---- a start

    abbrev StartOut : Made L → Made L → Type 0
    StartOut m n = Alike m.after n.after × (m.came ≡ n.came)

    begun_out : (call : Call) (b : Bool) (o : Option Refusal) (g : above.World) (v w : World) → AlikeWorlds v w
        → StartOut (begun L h call s (began_both g (if_hart b (begun_by v o)))) (begun L h call (over r s) (began_both g (if_hart b (begun_by w o))))
    begun_out call false o g v w a = ((r, alike, refl), refl)
    begun_out call true (Some why) g v w a = ((r, alike, refl), refl)
    begun_out call true None g v w a = ((w, a, refl), refl)

    start_out : (call : Call) (o : Option (Run L)) → StartOut (start_run L h call s o) (start_run L h call (over r s) o)
    start_out call (Some rn) = ((r, alike, refl), refl)
    start_out call None =
        let g = began_to s.world.seen ((served_calls sizes.version).start h call (busy_in L s) s.world.seen) in
        let v = record (s.world.real) { children = put s.world.real.children h (child_of call) } in
        let w = record r { children = put r.children h (child_of call) } in
        let why = start_refusal h call (busy_in L s) (shared_of s.world.real) in
        subst
        (λ (z : Option Refusal).
        StartOut (begun L h call s (began_both g (if_hart (nat_lt h hart_count) (begun_by v why))))
        (begun L h call (over r s) (began_both g (if_hart (nat_lt h hart_count) (begun_by w z)))))
        (refusal_same h call (busy_in L s) s.world.real r alike)
        (begun_out call (nat_lt h hart_count) why g v w
        (record { children = ap (λ (f : ℕ → Option ℕ). put f h (child_of call)) alike.children; states = alike.states }))

  -- ---- an event

  abbrev EventOut : Event Call Outside → Event Call Outside → State L → State L → Type 0
  EventOut e f s t =
      (Alike (next L e s) (next L f t) × ((makes L e s).came ≡ (makes L f t).came)
      × ((b : History) → kept_on sizes.version N e s b ≡ kept_on sizes.version N f t b))
      ⊎ (Broke (next L e s) ⊎ Broke (next L f t))

  facts : (s : State L) → Sound L s → (h : ℕ) (rn : Run L) → s.running h ≡ Some rn → s.stopped ≡ false
      → IsWholeLog s.world.real.blocks.state.log × OfNext (L.M.May h) (asks rn.prog) s.world
  facts s sound h rn at on =
      let keeps = sound_keeps L (lawful sizes) s sound in
      ((inv_of L s.stopped s.world keeps.holds on).0.0.whole, may_make L (lawful sizes) (L.M.tree sound.first) s keeps h rn on at)

  start_event : (h : ℕ) (call : Call) (s : State L) (r : World) → AlikeWorlds s.world.real r → EventOut (Start h call) (Start h call) s (over r s)
  start_event h call s r alike =
      let out = start_out h s r alike call (s.running h) in
      inl (out.0, out.1, λ b i. kept_start N h call (out.1 i) b)

  step_event : (h : ℕ) (x y : Outside) (s : State L) (r : World) → Sound L s → AlikeWorlds s.world.real r → EventOut (Step h x) (Step h y) s (over r s)
  step_event h x y s r sound alike = elim (run_out h s r alike x y (s.running h) (λ rn at. facts s sound h rn at)) [
    | inl out ↦
        let tree_same : N.tree (next L (Step h x) s).world ≡ N.tree (next L (Step h y) (over r s)).world = ap (λ (z : State L). N.tree z.world) out.0.2 in
        inl (out.0, out.1, λ b i. kept_step N h (out.1 i) (N.tree s.world) (tree_same i) (told_of N (out.2 i)) b)
    | inr broke ↦ inr broke
  ]

  asked_alike : (e f : Event Call Outside) (s : State L) (r : World) → Sound L s → AlikeWorlds s.world.real r → asked e ≡ asked f → EventOut e f s (over r s)
  asked_alike (Start h call) (Start g other) s r sound alike same =
      let at : h ≡ g = cc in
      let is : call ≡ other = cc in
      subst (λ (z : Event Call Outside). EventOut (Start h call) z s (over r s)) (λ i. Start (at i) (is i)) (start_event h call s r alike)
  asked_alike (Start h call) (Step g y) s r sound alike same = absurd cc
  asked_alike (Step h x) (Start g other) s r sound alike same = absurd cc
  asked_alike (Step h x) (Step g y) s r sound alike same =
      let at : h ≡ g = cc in
      subst (λ (z : ℕ). EventOut (Step h x) (Step z y) s (over r s)) at (step_event h x y s r sound alike)

  event_alike : (e f : Event Call Outside) (s t : State L) → Sound L s → Alike s t → asked e ≡ asked f → EventOut e f s t
  event_alike e f s t sound alike same = subst (λ (z : State L). EventOut e f s z) alike.2 (asked_alike e f s alike.0 sound alike.1 same)

  -- ---- once the device has failed, it has

  still_begun : (h : ℕ) (call : Call) (s : State L) (b : Bool) (o : Option Refusal) (g : above.World) (children : ℕ → Option ℕ) → Broke s
      → Broke (begun L h call s (began_both g (if_hart b (begun_by (record (s.world.real) { children = children }) o)))).after
  still_begun h call s false o g children broke = broke
  still_begun h call s true (Some why) g children broke = broke
  still_begun h call s true None g children broke = broke

  still_start : (h : ℕ) (call : Call) (s : State L) (o : Option (Run L)) → Broke s → Broke (start_run L h call s o).after
  still_start h call s (Some rn) broke = broke
  still_start h call s None broke =
      still_begun h call s (nat_lt h hart_count) (start_refusal h call (busy_in L s) (shared_of s.world.real))
      (began_to s.world.seen ((served_calls sizes.version).start h call (busy_in L s) s.world.seen)) (put s.world.real.children h (child_of call)) broke

  still_step : (h : ℕ) (x : Outside) (s : State L) (o : Option (Run L)) → Broke s → Broke (step_run L h x s o).after
  still_step h x s None broke = broke
  still_step h x s (Some rn) broke = subst (λ (z : Bool). Broke (step_unless L h x s z rn).after) (sym broke.0) broke

  still : (es : List (Event Call Outside)) (s : State L) → Broke s → Broke (run L es s)
  still [] s broke = broke
  still (Start h call ∷ es) s broke = still es (next L (Start h call) s) (still_start h call s (s.running h) broke)
  still (Step h x ∷ es) s broke = still es (next L (Step h x) s) (still_step h x s (s.running h) broke)

  -- ---- runs

  -- the device hasn't failed
  abbrev pub Unfailed : State (block_calls sizes) → Type 0
  Unfailed s = s.world.real.blocks.state.log.failures ≡ 0

  pub record RunsAlike (a b : List (Event Call Outside)) (s t : State (block_calls sizes)) (k : History) : Type 0 where
    pub list : kept sizes.version (block_moves sizes) a s k ≡ kept sizes.version (block_moves sizes) b t k
    pub came : ◌≡◌ {A = List (EventOutcome (block_calls sizes))} (outcomes (block_calls sizes) a s) (outcomes (block_calls sizes) b t)
    pub ends : Alike (run (block_calls sizes) a s) (run (block_calls sizes) b t)

  pub runs_alike : (a b : List (Event Call Outside)) (s t : State (block_calls sizes)) (k : History) → Sound (block_calls sizes) s
      → AllHonest (block_calls sizes) a s → Alike s t → all_asked a ≡ all_asked b
      → Unfailed (run (block_calls sizes) a s) → Unfailed (run (block_calls sizes) b t) → RunsAlike a b s t k
  runs_alike [] [] s t k sound honest alike same one two = record { list = refl; came = refl; ends = alike }
  runs_alike [] (f ∷ b) s t k sound honest alike same one two = absurd cc
  runs_alike (e ∷ a) [] s t k sound honest alike same one two = absurd cc
  runs_alike (e ∷ a) (f ∷ b) s t k sound honest alike same one two =
      let first_same : asked e ≡ asked f = cc in
      let rest_same : all_asked a ≡ all_asked b = cc in
      elim (event_alike e f s t sound alike first_same) [
        | inl out ↦
            let rest = runs_alike a b (next L e s) (next L f t) (kept_on sizes.version N e s k)
            (sound_run L (e ∷ []) s sound (honest.0, tt)) honest.1 out.0 rest_same one two in
            record {
              list = rest.list ∙ ap (kept sizes.version N b (next L f t)) (out.2 k);
              came = λ i. out.1 i ∷ rest.came i;
              ends = rest.ends;
            }
        | inr broke ↦ elim broke [
          | inl first_broke ↦ absurd ((still a (next L e s) first_broke).1 one)
          | inr second_broke ↦ absurd ((still b (next L f t) second_broke).1 two)
        ]
      ]
