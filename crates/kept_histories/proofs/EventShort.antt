-- The event that is the first to find no room is a hart's step. Either the kept tree knows of it then, or the hart's
-- call is just after a claim whose want of room it hears in its next step. No other event finds none.
use Rattle.std.specs.Prelude.{◌≡◌, ◌⊎◌, ℕ, Bool, true, false, not, ◌&&◌, List, Option, Some, None, get_or, nat_lt, ◌==◌}
use Rattle.calls_on_blocks.proofs.Vocabulary.{refl, sym, ◌∙◌, ap, subst, inl, inr}
use Rattle.atomic_programs.specs.Calls.{Began, Begins, DidEnd, DidRun, DidStop, DidWait, Event, EventOutcome, Made, Refused, Refuses, Started, WasIdle, WasStopped, Run, Start, State, Step, Theory, begun, busy_in, makes, moved, next, start_run, step_prog, step_run, step_unless, tried, with_answer}
use Rattle.atomic_programs.specs.Joined.{Both, both, seen_after}
use Rattle.atomic_programs.specs.Lowered.{began_both, began_to}
use Rattle.atomic_programs.specs.Plain.{PlainMade, by_kind}
use Rattle.atomic_programs.specs.Prog.{ExecResult, Waits, Ran, Stops, Ret, Do}
use Rattle.calls_on_blocks.specs.Layer.{World, exec}
use Rattle.calls_on_blocks.specs.Theory.{begins, block_calls, block_code, served_calls, serves}
use Rattle.fs_layout.specs.declared.superblock.Super.{Super}
use Rattle.fs_machine.specs.LogPart.{Passes}
use Rattle.fs_machine.specs.Steps as steps
use Rattle.inodes_on_blocks.specs.Handlers.{Acts, P}
use Rattle.hart_core.specs.Events.{came_of, event_of, said_of}
use Rattle.hart_core.specs.Harts.{HartsOf, shared_of}
use Rattle.hart_core.specs.Telling.{NotesEvent, RanAt}
use Rattle.hart_core.specs.Worlds.{Makes as CodeMakes}
use Rattle.hart_core.specs.declared.events.Came.{Came}
use Rattle.hart_core.specs.declared.events.Came.TheVariants as came
use Rattle.hart_core.specs.declared.events.Event.{Event as HartEvent}
use Rattle.hart_core.specs.declared.events.Event.TheVariants as event
use Rattle.hart_core.specs.declared.outcome.Outcome.TheVariants as outcome
use Rattle.hart_core.specs.declared.outcome.Stop.TheVariants as stop
use Rattle.inode_machine.specs.Rooms.{says_no_room}
use Rattle.inode_machine.specs.Rules.{machine}
use Rattle.inode_machine.specs.Exec.{is_nothing}
use Rattle.inode_machine.specs.Theory.{Busy, NoSuchHart, NotEmptyHart, Refusal, begin_call, call_wrong, has_descriptor, only_if, serving_world, why_not}
use Rattle.inode_machine.specs.Vocabulary.{MoveStep}
use Rattle.inode_machine.specs.World as above
use Rattle.inode_machine.specs.World.Mark.{Makes}
use Rattle.inodes_on_blocks.specs.Shown.{Shows}
use Rattle.path_walk.specs.declared.asks.Heard.{Heard}
use Rattle.plain_tree.specs.Tree.{tree_of}
use Rattle.plain_tree.specs.Widths.{hart_count}
use Rattle.plain_tree.specs.declared.answer.Reply.{Reply}
use Rattle.plain_tree.specs.declared.call.Call.{Call}
use Rattle.plain_tree.specs.declared.call.Call.TheVariants as calls
use Rattle.run_laws.specs.UnderWay.{EventDoes, Fits, RunsAStep, StepDoes, UnderWay}
use Rattle.call_programs.specs.Asks.{spoils}
use Rattle.run_laws.specs.Vocabulary.{Outside}
use Rattle.tree_histories.specs.Keeping.{KeptTree, hart_in}
use Rattle.tree_histories.specs.Moving.{HasRun as KeptRuns}
use Rattle.tree_laws.specs.History.{History}
use Rattle.tree_laws.specs.Moves.{Stage}
use Rattle.image_versions.specs.declared.version.Version.{Version}
use Rattle.kept_histories.specs.Keeps.{KeepsEvent, Passes as JustPasses}
use Rattle.kept_histories.proofs.Agreeing.{Agrees}
use Rattle.kept_histories.proofs.Amid.{AreAmid, are_amid}
use Rattle.kept_histories.proofs.EachEvent.{AllSee}
use Rattle.kept_histories.proofs.EventSteps.{HasRun, IsQuiet, ended_is, made_so, ran_is, run_off}
use Rattle.kept_histories.proofs.FirstShort.{first_short}
use Rattle.kept_histories.proofs.Lasting.{Lacks, SomeLacks}
use Rattle.kept_histories.proofs.Claiming.{leads_there}

-- ---- events that find room

module _ (sizes : Super) (s : State (block_calls sizes)) where
  -- the world above is as clean as before
  abbrev IsAsClean : Made (block_calls sizes) → Type 0
  IsAsClean made = made.after.world.seen.clean ≡ s.world.seen.clean

  -- a start

  ifs_clean : (w : above.World) (a b c : Bool) (x y z : Refusal) (d : Began Refusal above.World) → (began_to w d).clean ≡ w.clean
      → (began_to w (only_if a x (only_if b y (only_if c z d)))).clean ≡ w.clean
  ifs_clean w true true true x y z d e = e
  ifs_clean w true true false x y z d e = refl
  ifs_clean w true false c x y z d e = refl
  ifs_clean w false b c x y z d e = refl

  call_clean : (h : ℕ) (call : Call) (busy : ℕ → Bool) (w : above.World) → (began_to w (begin_call h call busy w)).clean ≡ w.clean
  call_clean h (calls.Inherit child) busy w =
      ifs_clean w (nat_lt child hart_count) (not (child == h) && (not (busy child) && is_nothing (w.desks child).lender)) (not (has_descriptor (w.desks child))) NoSuchHart Busy NotEmptyHart
      (Begins (serving_world w h child)) refl
  call_clean h (calls.Open path flags) busy w = refl
  call_clean h (calls.Read fd buffer) busy w = refl
  call_clean h (calls.Write fd bytes) busy w = refl
  call_clean h (calls.Link old new) busy w = refl
  call_clean h (calls.Unlink path) busy w = refl
  call_clean h (calls.Mkdir path) busy w = refl
  call_clean h (calls.Chdir path) busy w = refl
  call_clean h (calls.Dup fd) busy w = refl
  call_clean h (calls.Fstat fd) busy w = refl
  call_clean h (calls.Close fd) busy w = refl

  started_clean : (h : ℕ) (call : Call) (busy : ℕ → Bool) (w : above.World) → (began_to w ((served_calls sizes.version).start h call busy w)).clean ≡ w.clean
  started_clean h call busy w =
      ifs_clean w (nat_lt h hart_count) (is_nothing (w.desks h).lender) (serves call) NoSuchHart Busy (why_not (call_wrong call)) (begin_call h call busy w) (call_clean h call busy w)

  begun_clean : (h : ℕ) (call : Call) (w : above.World) (d : Began Refusal World) → w.clean ≡ s.world.seen.clean → IsAsClean (begun (block_calls sizes) h call s (began_both w d))
  begun_clean h call w (Refuses why) e = refl
  begun_clean h call w (Begins r) e = e

  start_clean : (h : ℕ) (call : Call) (o : Option (Run (block_calls sizes))) → IsAsClean (start_run (block_calls sizes) h call s o)
  start_clean h call (Some r) = refl
  start_clean h call None =
      begun_clean h call (began_to s.world.seen ((served_calls sizes.version).start h call (busy_in (block_calls sizes) s) s.world.seen)) (begins sizes h call (busy_in (block_calls sizes) s) s.world.real)
      (started_clean h call (busy_in (block_calls sizes) s) s.world.seen)

  -- a step that doesn't run

  tried_clean : (h : ℕ) (r : Run (block_calls sizes)) (op : steps.Op) (ps : steps.Answer op → List (ℕ × MoveStep)) (k : steps.Answer op → P Reply) (m : steps.Answer op → Option Acts)
      (d : ExecResult (steps.Answer op) World) → IsQuiet (tried (block_calls sizes) h s r op ps k (both (machine sizes.version) h m s.world.seen d)).came
      → IsAsClean (tried (block_calls sizes) h s r op ps k (both (machine sizes.version) h m s.world.seen d))
  tried_clean h r op ps k m Waits quiet = refl
  tried_clean h r op ps k m (Ran a w) quiet = absurd (by (k a) (record { real = w; seen = seen_after (machine sizes.version) h (m a) s.world.seen }) quiet)
    where
      by : (p : P Reply) (v : Both World above.World) → IsQuiet (moved (block_calls sizes) h s r (op, a) (ps a) p v).came → ⊥
      by (Ret reply) v q = q
      by (Do o n c) v q = q
  tried_clean h r op ps k m (Stops w) quiet = refl

  prog_clean : (h : ℕ) (x : Outside) (r : Run (block_calls sizes)) (p : P Reply) → IsQuiet (step_prog (block_calls sizes) h x s r p).came → IsAsClean (step_prog (block_calls sizes) h x s r p)
  prog_clean h x r (Ret reply) quiet = refl
  prog_clean h x r (Do op m k) quiet = tried_clean h r op (λ a. (block_calls sizes).M.places h op a (m a) s.world) k m (exec h x op s.world.real) quiet

  unless_clean : (h : ℕ) (x : Outside) (stopped : Bool) (r : Run (block_calls sizes)) → IsQuiet (step_unless (block_calls sizes) h x s stopped r).came
      → IsAsClean (step_unless (block_calls sizes) h x s stopped r)
  unless_clean h x true r quiet = refl
  unless_clean h x false r quiet = prog_clean h x r r.prog quiet

  quiet_clean : (h : ℕ) (x : Outside) (o : Option (Run (block_calls sizes))) → IsQuiet (step_run (block_calls sizes) h x s o).came → IsAsClean (step_run (block_calls sizes) h x s o)
  quiet_clean h x None quiet = refl
  quiet_clean h x (Some r) quiet = unless_clean h x s.stopped r quiet

  quiet_kind : (o : EventOutcome (block_calls sizes)) → IsQuiet (by_kind (block_calls sizes) (block_code sizes) o) → IsQuiet o
  quiet_kind Started quiet = quiet
  quiet_kind (Refused why) quiet = quiet
  quiet_kind WasIdle quiet = quiet
  quiet_kind DidWait quiet = quiet
  quiet_kind (DidRun did) quiet = quiet
  quiet_kind (DidEnd reply) quiet = quiet
  quiet_kind DidStop quiet = quiet
  quiet_kind WasStopped quiet = quiet

-- ---- what is known of the event

module _ (sizes : Super) where
  -- The operations under way go on as they act, each in its hart's call, and their marks say what their answers say
  -- of room. What the tree shows has the mark of the answer; and the world above holds, and is shown.
  pub record KnownShort (f : Event Call Outside) (s : State (block_calls sizes)) (was now : ℕ → Option UnderWay) : Type 0 where
    pub does : EventDoes sizes f s (makes (block_calls sizes) f s) was now
    pub fits : (h : ℕ) → Fits sizes (s.running h) (was h)
    pub tells : (h : ℕ) (u : UnderWay) → was h ≡ Some u → (a : above.Answer u.op) → spoils (u.mark a) ≡ says_no_room u.op a
    pub sees : AllSee sizes s was now
    pub shows : s.stopped ≡ false → Shows s.world.real.blocks s.world.seen

some_passed : {D : Type 0} (w : HartsOf D) (k k' : KeptTree) → JustPasses k k' → SomeLacks w k → SomeLacks w k'
some_passed w k k' p some = record {
  hart = some.hart;
  machine = some.machine;
  call = some.call;
  code = some.code;
  kept = ap (λ (z : KeptTree). hart_in z some.hart) p.kept ∙ some.kept;
  lacks = subst (λ (z : Version). Lacks z some.machine some.call) (sym (ap (λ (z : KeptTree). z.version) p.kept)) some.lacks;
}

-- ---- the event

module _ {D : Type 0} (contents : D → List (List ℕ)) (failures : D → ℕ) (sizes : Super) (s : State (block_calls sizes)) (was now : ℕ → Option UnderWay) (b : History)
    (old new : HartsOf D) (k k' : KeptTree) (agree : Agrees contents failures sizes s b old k was) (clean : s.world.seen.clean ≡ true) where
  abbrev L : Theory
  L = block_calls sizes

  abbrev Short : Event Call Outside → Type 0
  Short f = (next L f s).world.seen.clean ≡ false

  abbrev Result : Type 0
  Result = (k'.full ≡ true) ⊎ SomeLacks new k'

  came_as : (f : Event Call Outside) (c : Came) → CodeMakes contents failures sizes f old (came_of c) new → by_kind L (block_code sizes) (makes L f s).came ≡ came_of c
  came_as f c m = ap (λ (z : PlainMade L (block_code sizes)). z.came) (made_so sizes contents failures f s old new (came_of c) agree.code m)

  -- the world is clean still
  stays_clean : (f : Event Call Outside) → (next L f s).world.seen.clean ≡ s.world.seen.clean → Short f → Result
  stays_clean f same short = absurd (let q : true ≡ false = sym clean ∙ sym same ∙ short in cc)

  quiet_event : (h : ℕ) (x : Outside) (c : Came) → CodeMakes contents failures sizes (Step h x) old (came_of c) new → IsQuiet (came_of c) → Short (Step h x) → Result
  quiet_event h x c m quiet short =
      stays_clean (Step h x) (quiet_clean sizes s h x (s.running h) (quiet_kind sizes s (makes L (Step h x) s).came (subst (λ z. IsQuiet z) (sym (came_as (Step h x) c m)) quiet))) short

  -- a step that ran
  short_in : (h : ℕ) (out : Option (Unit {0})) (came : Option Heard) → HasRun (makes L (Step h Passes) s).came → RunsAStep sizes h Passes s (makes L (Step h Passes) s) was now
      → RanAt h (get_or old.calls h None) out came (get_or new.calls h None) (shared_of contents failures old) (shared_of contents failures new) → AreAmid new
      → (amid : KeptTree) → KeptRuns k h came amid → KnownShort sizes (Step h Passes) s was now → Short (Step h Passes) → (amid.full ≡ true) ⊎ ((out ≡ None) × SomeLacks new amid)
  short_in h out came has_run r ran fine amid runs known short =
      first_short contents failures sizes h s (makes L (Step h Passes) s) was now r b old new k agree
      out came ran amid runs fine (known.sees h (makes L (Step h Passes) s) r (run_off sizes h Passes s (s.running h) has_run) (tree_of k.tree) (ap (λ (m : Stage). m.tree) agree.stage))
      (leads_there sizes (s.running h) r.under (subst (Fits sizes (s.running h)) r.is (known.fits h))) (known.tells h r.under r.is) (known.shows (run_off sizes h Passes s (s.running h) has_run)) clean short

  ran_event : (h : ℕ) (kind : _) (n : NotesEvent contents failures (λ a d x z. KeepsEvent a (event.Step h) d x z) sizes (event.Step h) old k (came.Stepped (outcome.Ran kind)) new k')
      → KnownShort sizes (Step h Passes) s was now → Short (Step h Passes) → Result
  ran_event h kind n known short =
      let made : Made L = makes L (Step h Passes) s in
      let is = ran_is sizes made.came kind (came_as (Step h Passes) (came.Stepped (outcome.Ran kind)) n.makes) in
      elim (short_in h None n.heard (subst HasRun (sym is.1) tt) (subst (λ (z : EventOutcome L). StepDoes sizes h Passes s made z was now) is.1 known.does) n.tells.place
      (are_amid contents failures new n.fits) n.took.amid n.took.runs known short) [
        | inl full ↦ inl (ap (λ (z : KeptTree). z.full) n.took.ends.kept ∙ full)
        | inr lacks ↦ inr (some_passed new n.took.amid k' n.took.ends lacks.1)
      ]

  done_event : (h : ℕ) (reply : Reply) (n : NotesEvent contents failures (λ a d x z. KeepsEvent a (event.Step h) d x z) sizes (event.Step h) old k (came.Stepped (outcome.Done reply)) new k')
      → KnownShort sizes (Step h Passes) s was now → Short (Step h Passes) → Result
  done_event h reply n known short =
      let made : Made L = makes L (Step h Passes) s in
      let is : made.came ≡ DidEnd reply = ended_is sizes made.came reply (came_as (Step h Passes) (came.Stepped (outcome.Done reply)) n.makes) in
      elim (short_in h (Some tt) n.heard (subst HasRun (sym is) tt) (subst (λ (z : EventOutcome L). StepDoes sizes h Passes s made z was now) is known.does) n.tells.place
      (are_amid contents failures new n.fits) n.took.amid n.took.runs known short) [
        | inl full ↦ inl (ap (λ (z : KeptTree). z.full) n.took.ends.kept ∙ full)
        | inr lacks ↦ absurd (let q : Some tt ≡ None = lacks.0 in cc)
      ]

  -- If the event is the first to find no room, that is known, or a call lacks a place and hasn't heard so yet.
  pub event_short : (e : HartEvent) (c : Came) (n : NotesEvent contents failures (λ a d x z. KeepsEvent a e d x z) sizes e old k c new k')
      → let f = with_answer (event_of e) (said_of c (shared_of contents failures new)) in
      KnownShort sizes f s was now → (next (block_calls sizes) f s).world.seen.clean ≡ false → (k'.full ≡ true) ⊎ SomeLacks new k'
  event_short (event.Start h call) c n known short = stays_clean (Start h call) (start_clean sizes s h call (s.running h)) short
  event_short (event.Step h) came.Started n known short = absurd n.tells.place
  event_short (event.Step h) (came.Refused why) n known short = absurd n.tells.place
  event_short (event.Step h) (came.Stepped outcome.Idle) n known short = quiet_event h Passes (came.Stepped outcome.Idle) n.makes tt short
  event_short (event.Step h) (came.Stepped outcome.Waits) n known short = quiet_event h Passes (came.Stepped outcome.Waits) n.makes tt short
  event_short (event.Step h) (came.Stepped (outcome.Ran kind)) n known short = ran_event h kind n known short
  event_short (event.Step h) (came.Stepped (outcome.Done reply)) n known short = done_event h reply n known short
  event_short (event.Step h) (came.Stepped (outcome.Stopped stop.DeviceFault)) n known short =
      quiet_event h _ (came.Stepped (outcome.Stopped stop.DeviceFault)) n.makes tt short
  event_short (event.Step h) (came.Stepped (outcome.Stopped stop.Halted)) n known short =
      quiet_event h _ (came.Stepped (outcome.Stopped stop.Halted)) n.makes tt short
