-- The list of a run, and whether each step of it found room, are the same of each of its histories.
use Rattle.std.specs.Prelude.{◌≡◌, ◌⊎◌, ℕ, Bool, true, false, List, [], ◌∷◌, Option, Some, None}
use Rattle.calls_on_blocks.proofs.Vocabulary.{refl, sym, ◌∙◌, ap, subst, inl, inr, turn_is_out}
use Rattle.calls_on_blocks.proofs.Lawful.{is_code}
use Rattle.atomic_programs.proofs.Erased.{erase-outcomes}
use Rattle.atomic_programs.specs.Calls.{Began, Begins, DidStop, Event, Made, Refuses, Run, Start, State, Step, Theory, all_asked, asked, begun, busy_in, fresh, makes, moved, next, outcomes, run, start_run, step_prog, step_run, step_unless, tried, unchanged}
use Rattle.atomic_programs.specs.Joined.{ActOf, both, seen_after}
use Rattle.atomic_programs.specs.Logic.{Machine, P}
use Rattle.atomic_programs.specs.Lowered.{began_both, began_to}
use Rattle.atomic_programs.specs.Plain.{Code, all_by_kind, by_kind, erase, plain_outcomes}
use Rattle.atomic_programs.specs.Prog.{Do, ExecResult, Ran, Ret, Stops, Waits, exec_result_in}
use Rattle.calls_on_blocks.specs.History.{block_moves, first}
use Rattle.calls_on_blocks.specs.Layer.{World, exec as exec_layer}
use Rattle.calls_on_blocks.specs.Theory.{begins, block_calls, block_code, served_calls}
use Rattle.fs_layout.specs.declared.superblock.Super.{Super}
use Rattle.fs_machine.specs.LogPart.{Fails, LogPart, Outside, Passes, commit_if, commit_log, read_block, write_log}
use Rattle.fs_machine.specs.Steps as steps
use Rattle.hart_core.proofs.Resting.{rests_erased}
use Rattle.hart_core.specs.Harts.{HartsOf}
use Rattle.hart_core.specs.Runs.{FoundRoom, IsHistory, IsMounted, outcomes_of}
use Rattle.hart_core.specs.Worlds.{WorldOf, calls_of}
use Rattle.hart_core.specs.declared.events.Came.{Came}
use Rattle.hart_core.specs.declared.events.Event.{Event as HartEvent}
use Rattle.inode_machine.specs.Kept.{kept_start, kept_step, nothing_yet, placed_prog, placed_tried, placed_unless, told_of}
use Rattle.inode_machine.specs.Kept.{kept, kept_on, placed, placed_run}
use Rattle.inode_machine.specs.MoveCalls.{MoveMachine}
use Rattle.inode_machine.specs.Vocabulary.{MoveStep}
use Rattle.inodes_on_blocks.specs.Below as blocks
use Rattle.plain_tree.specs.declared.answer.Reply.{Reply}
use Rattle.plain_tree.specs.declared.call.Call.{Call}
use Rattle.run_laws.specs.OneList.{list_of}
use Rattle.run_laws.specs.Vocabulary.{sizes_of}
use Rattle.tree_laws.specs.History.{History, passes}
use Rattle.tree_laws.specs.Moves.{Deed, Stage}

-- ---- the outcome of an operation, by what the device answers

abbrev pub IsStop : {A S : Type 0} → ExecResult A S → Type 0
IsStop Waits = ⊥
IsStop (Ran a s) = ⊥
IsStop (Stops s) = Unit {0}

-- the same, or one of them stops the world
abbrev pub Alike : {A S : Type 0} → ExecResult A S → ExecResult A S → Type 0
Alike d e = (d ≡ e) ⊎ (IsStop d ⊎ IsStop e)

stops_in : {A S T : Type 0} (f : S → T) (d : ExecResult A S) → IsStop d → IsStop (exec_result_in f d)
stops_in f Waits stop = absurd stop
stops_in f (Ran a s) stop = absurd stop
stops_in f (Stops s) stop = tt

alike_in : {A S T : Type 0} (f : S → T) (d e : ExecResult A S) → Alike d e → Alike (exec_result_in f d) (exec_result_in f e)
alike_in f d e (inl same) = inl (ap (exec_result_in f) same)
alike_in f d e (inr (inl stop)) = inr (inl (stops_in f d stop))
alike_in f d e (inr (inr stop)) = inr (inr (stops_in f e stop))

read_alike : (b : ℕ) (x y : Outside) (l : LogPart) → Alike (read_block b x l) (read_block b y l)
read_alike b Passes Passes l = inl refl
read_alike b Passes (Fails after) l = inr (inr tt)
read_alike b (Fails after) y l = inr (inl tt)

write_alike : (x y : Outside) (l : LogPart) → Alike (write_log x l) (write_log y l)
write_alike Passes Passes l = inl refl
write_alike Passes (Fails after) l = inr (inr tt)
write_alike (Fails after) y l = inr (inl tt)

commit_alike : (x y : Outside) (l : LogPart) (out : Bool) → Alike (commit_if x l out) (commit_if y l out)
commit_alike x y l true = inl refl
commit_alike x y l false = write_alike x y l

-- Only a read and a write of a commit ask the device, and each stops the world if the device fails.
exec_alike : (h : ℕ) (x y : Outside) (op : steps.Op) (s : steps.State) → Alike (steps.exec h x op s) (steps.exec h y op s)
unfolding steps.exec
exec_alike h x y steps.Join s = inl refl
exec_alike h x y (steps.JoinToWrite fd) s = inl refl
exec_alike h x y steps.Leave s = inl refl
exec_alike h x y (steps.Get b) s = inl refl
exec_alike h x y (steps.Read b) s = alike_in (λ l. record s { log = l }) (read_block b x s.log) (read_block b y s.log) (read_alike b x y s.log)
exec_alike h x y (steps.Put b change) s = inl refl
exec_alike h x y steps.Commit s =
    alike_in (λ l. record s { log = l }) (commit_log x s.log) (commit_log y s.log) (commit_alike x y s.log (turn_is_out s.log.seats s.log.group s.log.phase))
exec_alike h x y (steps.Lock n) s = inl refl
exec_alike h x y (steps.LockFile w fd) s = inl refl
exec_alike h x y (steps.LockOpen fd) s = inl refl
exec_alike h x y (steps.Unlock v moved) s = inl refl
exec_alike h x y (steps.SetDirectory v) s = inl refl
exec_alike h x y (steps.Up whom) s = inl refl
exec_alike h x y (steps.Claim b candidates) s = inl refl
exec_alike h x y (steps.Down drop) s = inl refl
exec_alike h x y (steps.CheckFile w fd) s = inl refl
exec_alike h x y steps.TakePlace s = inl refl
exec_alike h x y (steps.TakeDescriptor n file) s = inl refl
exec_alike h x y (steps.Double fd) s = inl refl
exec_alike h x y (steps.Close fd) s = inl refl
exec_alike h x y (steps.GiveDescriptor child from) s = inl refl
exec_alike h x y steps.Reply s = inl refl

stops_below : (h : ℕ) (op : steps.Op) (w : blocks.World) (d : ExecResult (steps.Answer op) steps.State) → IsStop d → IsStop (blocks.came_to h op w d)
stops_below h op w Waits stop = absurd stop
stops_below h op w (Ran a s) stop = absurd stop
stops_below h op w (Stops s) stop = tt

below_alike : (h : ℕ) (op : steps.Op) (w : blocks.World) (d e : ExecResult (steps.Answer op) steps.State) → Alike d e → Alike (blocks.came_to h op w d) (blocks.came_to h op w e)
below_alike h op w d e (inl same) = inl (ap (blocks.came_to h op w) same)
below_alike h op w d e (inr (inl stop)) = inr (inl (stops_below h op w d stop))
below_alike h op w d e (inr (inr stop)) = inr (inr (stops_below h op w e stop))

layer_alike : (h : ℕ) (x y : Outside) (op : steps.Op) (w : World) → Alike (exec_layer h x op w) (exec_layer h y op w)
layer_alike h x y op w =
    alike_in (λ v. record w { blocks = v }) (blocks.exec h x op w.blocks) (blocks.exec h y op w.blocks)
    (below_alike h op w.blocks (steps.exec h x op w.blocks.state) (steps.exec h y op w.blocks.state) (exec_alike h x y op w.blocks.state))

-- ---- two states of a run

module _ (sizes : Super) where
  abbrev L : Theory
  L = block_calls sizes

  abbrev C : Code L
  C = block_code sizes

  abbrev N : MoveMachine
  N = block_moves sizes

  abbrev U : Machine
  U = (served_calls sizes.version).M

  -- the state over other blocks
  abbrev pub over : World → State (block_calls sizes) → State (block_calls sizes)
  over r s = record s { world = record { real = r; seen = s.world.seen } }

  -- one state, or two of a stopped world that differ in their blocks alone
  abbrev pub Beside : State (block_calls sizes) → State (block_calls sizes) → Type 0
  Beside s t = (s ≡ t) ⊎ ((s.stopped ≡ true) × ((r : World) × (over r s ≡ t)))

  -- two events led to such states, and wrote the same
  abbrev pub AlikeMade : ℕ → Made (block_calls sizes) → List (ℕ × MoveStep) → Made (block_calls sizes) → List (ℕ × MoveStep) → Type 0
  AlikeMade h m ps n qs =
      Beside m.after n.after
      × ((u : Stage) (b : History)
      → kept_step N h m.came u (N.tree m.after.world) (told_of N ps) b ≡ kept_step N h n.came u (N.tree n.after.world) (told_of N qs) b)

  itself : (h : ℕ) (m : Made (block_calls sizes)) (ps : List (ℕ × MoveStep)) → AlikeMade h m ps m ps
  itself h m ps = (inl refl, λ u b. refl)

  -- ---- a step, from one state

  module _ (h : ℕ) (s : State (block_calls sizes)) (r : Run (block_calls sizes)) (op : steps.Op)
      (mark : steps.Answer op → Option (ActOf U)) (k : steps.Answer op → P L.M Reply) where
    abbrev Below : Type 0
    Below = ExecResult (steps.Answer op) World

    -- what an operation with this outcome makes of the state, and places
    abbrev of : Below → ExecResult (steps.Answer op) L.M.World
    of d = both U h mark s.world.seen d

    abbrev puts : steps.Answer op → List (ℕ × MoveStep)
    puts a = L.M.places h op a (mark a) s.world

    abbrev made : Below → Made (block_calls sizes)
    made d = tried L h s r op puts k (of d)

    abbrev AlikeSo : Below → Below → Type 0
    AlikeSo d e = AlikeMade h (made d) (placed_tried N puts (of d)) (made e) (placed_tried N puts (of e))

    moved_goes_on : (a : steps.Answer op) (p : P L.M Reply) (w : L.M.World) → by_kind L C (moved L h s r (op, a) (puts a) p w).came ≡ DidStop → ⊥
    moved_goes_on a (Ret reply) w e = absurd cc
    moved_goes_on a (Do other m next) w e = absurd cc

    stop_is : (d : Below) → by_kind L C (made d).came ≡ DidStop → IsStop d
    stop_is Waits e = absurd cc
    stop_is (Ran a w) e = absurd (moved_goes_on a (k a) (record { real = w; seen = seen_after U h (mark a) s.world.seen }) e)
    stop_is (Stops w) e = tt

    is_stop : (d : Below) → IsStop d → by_kind L C (made d).came ≡ DidStop
    is_stop Waits stop = absurd stop
    is_stop (Ran a w) stop = absurd stop
    is_stop (Stops w) stop = refl

    both_stop : (d e : Below) → IsStop d → IsStop e → AlikeSo d e
    both_stop Waits e stop ends = absurd stop
    both_stop (Ran a w) e stop ends = absurd stop
    both_stop (Stops w) Waits stop ends = absurd ends
    both_stop (Stops w) (Ran a v) stop ends = absurd ends
    both_stop (Stops w) (Stops v) stop ends = (inr (refl, (v, refl)), λ u b. refl)

    tried_alike : (d e : Below) → Alike d e → by_kind L C (made d).came ≡ by_kind L C (made e).came → AlikeSo d e
    tried_alike d e (inl same) came = subst (λ (z : Below). AlikeSo d z) same (itself h (made d) (placed_tried N puts (of d)))
    tried_alike d e (inr (inl stop)) came = both_stop d e stop (stop_is e (sym came ∙ is_stop d stop))
    tried_alike d e (inr (inr stop)) came = both_stop d e (stop_is d (came ∙ is_stop e stop)) stop

  module _ (h : ℕ) (x y : Outside) (s : State (block_calls sizes)) where
    prog_alike : (r : Run (block_calls sizes)) (p : P L.M Reply) → by_kind L C (step_prog L h x s r p).came ≡ by_kind L C (step_prog L h y s r p).came
        → AlikeMade h (step_prog L h x s r p) (placed_prog N h x s.world p) (step_prog L h y s r p) (placed_prog N h y s.world p)
    prog_alike r (Ret reply) came = itself h (step_prog L h x s r (Ret reply)) []
    prog_alike r (Do op mark k) came =
        tried_alike h s r op mark k (exec_layer h x op s.world.real) (exec_layer h y op s.world.real) (layer_alike h x y op s.world.real) came

    unless_alike : (r : Run (block_calls sizes)) (stopped : Bool) → by_kind L C (step_unless L h x s stopped r).came ≡ by_kind L C (step_unless L h y s stopped r).came
        → AlikeMade h (step_unless L h x s stopped r) (placed_unless N h x s.world stopped r.prog) (step_unless L h y s stopped r) (placed_unless N h y s.world stopped r.prog)
    unless_alike r true came = itself h (step_unless L h x s true r) []
    unless_alike r false came = prog_alike r r.prog came

    run_alike : (o : Option (Run (block_calls sizes))) → by_kind L C (step_run L h x s o).came ≡ by_kind L C (step_run L h y s o).came
        → AlikeMade h (step_run L h x s o) (placed_run sizes.version N h x s o) (step_run L h y s o) (placed_run sizes.version N h y s o)
    run_alike None came = itself h (step_run L h x s None) []
    run_alike (Some r) came = unless_alike r s.stopped came

  -- ---- an event, from one state, and of a stopped world

  -- two events led to states that go on alike, and kept the same
  abbrev pub GoAlike : Event Call Outside → Event Call Outside → State (block_calls sizes) → State (block_calls sizes) → Type 0
  GoAlike e f s t = Beside (next (block_calls sizes) e s) (next (block_calls sizes) f t) × ((b : History) → kept_on sizes.version N e s b ≡ kept_on sizes.version N f t b)

  one_alike : (e f : Event Call Outside) (s : State (block_calls sizes)) → asked e ≡ asked f
      → by_kind (block_calls sizes) (block_code sizes) (makes (block_calls sizes) e s).came ≡ by_kind (block_calls sizes) (block_code sizes) (makes (block_calls sizes) f s).came → GoAlike e f s s
  one_alike (Start h call) (Start g other) s same came =
      let at : h ≡ g = cc in
      let is : call ≡ other = cc in
      (inl (λ i. next (block_calls sizes) (Start (at i) (is i)) s), λ b. (λ i. kept_on sizes.version N (Start (at i) (is i)) s b))
  one_alike (Start h call) (Step g y) s same came = absurd cc
  one_alike (Step h x) (Start g other) s same came = absurd cc
  one_alike (Step h x) (Step g y) s same came =
      let at : h ≡ g = cc in
      by g (sym at) came
    where
      by : (j : ℕ) → j ≡ h → by_kind L C (makes L (Step h x) s).came ≡ by_kind L C (makes L (Step j y) s).came → GoAlike (Step h x) (Step j y) s s
      by j is equal =
          subst (λ (z : ℕ). GoAlike (Step h x) (Step z y) s s) (sym is)
          (let alike = run_alike h x y s (s.running h) (subst (λ (z : ℕ). by_kind L C (makes L (Step h x) s).came ≡ by_kind L C (makes L (Step z y) s).came) is equal) in
          (alike.0, λ b. alike.1 (N.tree s.world) b))

  -- in a stopped world a step does nothing
  stays : (h : ℕ) (x : Outside) (s : State (block_calls sizes)) (o : Option (Run (block_calls sizes))) → s.stopped ≡ true
      → ((step_run L h x s o).after ≡ unchanged L s) × ((u v : Stage) (d : Option Deed) (b : History) → kept_step N h (step_run L h x s o).came u v d b ≡ passes b)
  stays h x s None still = (refl, λ u v d b. refl)
  stays h x s (Some r) still = subst (λ (z : Bool). ((step_unless L h x s z r).after ≡ unchanged L s) × ((u v : Stage) (d : Option Deed) (b : History) → kept_step N h (step_unless L h x s z r).came u v d b ≡ passes b)) (sym still) (refl, λ u v d b. refl)

  -- a start sees the blocks, but if its outcome is the same it leaves the rest alike
  begun_alike : (h : ℕ) (call : Call) (s : State (block_calls sizes)) (r : World) (g : U.World) (d e : Began L.Refusal World) → s.stopped ≡ true
      → by_kind L C (begun L h call s (began_both g d)).came ≡ by_kind L C (begun L h call (over r s) (began_both g e)).came
      → Beside (begun L h call s (began_both g d)).after (begun L h call (over r s) (began_both g e)).after
      × ((b : History) → kept_start N h call (begun L h call s (began_both g d)).came b ≡ kept_start N h call (begun L h call (over r s) (began_both g e)).came b)
  begun_alike h call s r g (Refuses why) (Refuses other) still came = (inr (still, (r, refl)), λ b. refl)
  begun_alike h call s r g (Refuses why) (Begins w) still came = absurd cc
  begun_alike h call s r g (Begins w) (Refuses why) still came = absurd cc
  begun_alike h call s r g (Begins w) (Begins v) still came = (inr (still, (v, refl)), λ b. refl)

  start_alike : (h : ℕ) (call : Call) (s : State (block_calls sizes)) (r : World) (o : Option (Run (block_calls sizes))) → s.stopped ≡ true
      → by_kind L C (start_run L h call s o).came ≡ by_kind L C (start_run L h call (over r s) o).came
      → Beside (start_run L h call s o).after (start_run L h call (over r s) o).after
      × ((b : History) → kept_start N h call (start_run L h call s o).came b ≡ kept_start N h call (start_run L h call (over r s) o).came b)
  start_alike h call s r (Some under) still came = (inr (still, (r, refl)), λ b. refl)
  start_alike h call s r None still came =
      begun_alike h call s r (began_to s.world.seen ((served_calls sizes.version).start h call (busy_in L s) s.world.seen)) (begins sizes h call (busy_in L s) s.world.real) (begins sizes h call (busy_in L s) r) still came

  stopped_alike : (e f : Event Call Outside) (s : State (block_calls sizes)) (r : World) → s.stopped ≡ true → asked e ≡ asked f
      → by_kind (block_calls sizes) (block_code sizes) (makes (block_calls sizes) e s).came ≡ by_kind (block_calls sizes) (block_code sizes) (makes (block_calls sizes) f (over r s)).came → GoAlike e f s (over r s)
  stopped_alike (Start h call) (Start g other) s r still same came =
      let at : h ≡ g = cc in
      let is : call ≡ other = cc in
      let to : ◌≡◌ {A = Event Call Outside} (Start h call) (Start g other) = λ i. Start (at i) (is i) in
      subst (λ (z : Event Call Outside). GoAlike (Start h call) z s (over r s)) to
      (start_alike h call s r (s.running h) still (came ∙ sym (ap (λ (z : Event Call Outside). by_kind L C (makes L z (over r s)).came) to)))
  stopped_alike (Start h call) (Step g y) s r still same came = absurd cc
  stopped_alike (Step h x) (Start g other) s r still same came = absurd cc
  stopped_alike (Step h x) (Step g y) s r still same came =
      let one = stays h x s (s.running h) still in
      let two = stays g y (over r s) (s.running g) still in (
        inr (ap (λ (z : State (block_calls sizes)). z.stopped) one.0 ∙ still, (r, ap (over r) one.0 ∙ sym two.0)),
        λ b. one.1 (N.tree s.world) (N.tree (next L (Step h x) s).world) (told_of N (placed sizes.version N (Step h x) s)) b
            ∙ sym (two.1 (N.tree s.world) (N.tree (next L (Step g y) (over r s)).world) (told_of N (placed sizes.version N (Step g y) (over r s))) b),
      )

  event_alike : (e f : Event Call Outside) (s t : State (block_calls sizes)) → Beside s t → asked e ≡ asked f
      → by_kind (block_calls sizes) (block_code sizes) (makes (block_calls sizes) e s).came ≡ by_kind (block_calls sizes) (block_code sizes) (makes (block_calls sizes) f t).came → GoAlike e f s t
  event_alike e f s t (inl is) same came =
      subst (λ (z : State (block_calls sizes)). by_kind L C (makes L e s).came ≡ by_kind L C (makes L f z).came → GoAlike e f s z) is (one_alike e f s same) came
  event_alike e f s t (inr (still, (r, is))) same came =
      subst (λ (z : State (block_calls sizes)). by_kind L C (makes L e s).came ≡ by_kind L C (makes L f z).came → GoAlike e f s z) is (stopped_alike e f s r still same) came

  -- ---- runs

  seen_alike : (s t : State (block_calls sizes)) → Beside s t → s.world.seen ≡ t.world.seen
  seen_alike s t (inl is) = ap (λ (z : State (block_calls sizes)). z.world.seen) is
  seen_alike s t (inr (still, (r, is))) = ap (λ (z : State (block_calls sizes)). z.world.seen) is

  -- What is asked and its outcome determine what is kept, and the world above.
  pub runs_alike : (a b : List (Event Call Outside)) (s t : State (block_calls sizes)) (k : History) → Beside s t → all_asked a ≡ all_asked b
      → all_by_kind (block_calls sizes) (block_code sizes) (outcomes (block_calls sizes) a s) ≡ all_by_kind (block_calls sizes) (block_code sizes) (outcomes (block_calls sizes) b t)
      → (kept sizes.version (block_moves sizes) a s k ≡ kept sizes.version (block_moves sizes) b t k)
      × ((run (block_calls sizes) a s).world.seen ≡ (run (block_calls sizes) b t).world.seen)
  runs_alike [] [] s t k beside same came = (refl, seen_alike s t beside)
  runs_alike [] (f ∷ b) s t k beside same came = absurd cc
  runs_alike (e ∷ a) [] s t k beside same came = absurd cc
  runs_alike (e ∷ a) (f ∷ b) s t k beside same came =
      let first_same : asked e ≡ asked f = cc in
      let rest_same : all_asked a ≡ all_asked b = cc in
      let first_came : by_kind L C (makes L e s).came ≡ by_kind L C (makes L f t).came = cc in
      let rest_came : all_by_kind L C (outcomes L a (next L e s)) ≡ all_by_kind L C (outcomes L b (next L f t)) = cc in
      let alike : GoAlike e f s t = event_alike e f s t beside first_same first_came in
      let rest = runs_alike a b (next L e s) (next L f t) (kept_on sizes.version N e s k) alike.0 rest_same rest_came in
      (rest.0 ∙ ap (kept sizes.version N b (next L f t)) (alike.1 k), rest.1)

module _ {D : Type 0} (contents : D → List (List ℕ)) (failures : D → ℕ) (w : WorldOf D) where
  abbrev start : State (block_calls w.sizes)
  start = fresh (block_calls w.sizes) (first (contents w.harts.core.log.cache.device) (failures w.harts.core.log.cache.device))

  -- the outcomes of a history's events in the theory
  outcomes_as : (device : D) (events : List HartEvent) (came : List Came) (new : HartsOf D) (a : List (Event Call Outside)) → IsMounted contents failures device w
      → IsHistory contents failures w.sizes w.harts events came new a → all_by_kind (block_calls w.sizes) (block_code w.sizes) (outcomes (block_calls w.sizes) a start) ≡ outcomes_of came
  outcomes_as device events came new a mounted is =
      let same : w.sizes ≡ sizes_of (contents w.harts.core.log.cache.device) = mounted.sizes ∙ sym mounted.rests.disk.sizes in
      let begins_so : erase (block_calls w.sizes) (block_code w.sizes) start ≡ calls_of contents failures w.sizes w.harts =
      subst
      (λ (z : Super). erase (block_calls z) (block_code z) (fresh (block_calls z) (first (contents w.harts.core.log.cache.device) (failures w.harts.core.log.cache.device))) ≡ calls_of contents failures z w.harts)
      (sym same) (rests_erased contents failures device w.harts mounted.rests) in
      sym (erase-outcomes (block_calls w.sizes) (block_code w.sizes) (is_code w.sizes) a start)
      ∙ ap (plain_outcomes (block_calls w.sizes) (block_code w.sizes) a) begins_so ∙ is.comes_to

  -- Of a run of a mounted world each history has the same list, and in each of them every step found room if it did in one.
  pub one_run : (device : D) (events : List HartEvent) (came : List Came) (new other : HartsOf D) (a b : List (Event Call Outside)) → IsMounted contents failures device w
      → IsHistory contents failures w.sizes w.harts events came new a → IsHistory contents failures w.sizes w.harts events came other b
      → (list_of contents failures w a ≡ list_of contents failures w b) × (FoundRoom contents failures w a → FoundRoom contents failures w b)
  one_run device events came new other a b mounted one two =
      let alike = runs_alike w.sizes a b start start nothing_yet (inl refl) (one.asks ∙ sym two.asks)
      (outcomes_as device events came new a mounted one ∙ sym (outcomes_as device events came other b mounted two)) in
      (ap (λ (z : History). z.list) alike.0, λ clean. subst (served_calls w.sizes.version).M.Clean alike.1 clean)
