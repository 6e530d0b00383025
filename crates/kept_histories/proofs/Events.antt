-- Each event: the theory's state, code's harts and the kept tree agree after it as before it.
use Rattle.std.specs.Prelude.{◌≡◌, ◌<◌, ◌-◌, ◌^◌, ℕ, List, Option, Some, None, get_or}
use Rattle.calls_on_blocks.proofs.Vocabulary.{refl, sym, ap, subst}
use Rattle.atomic_programs.specs.Calls.{DidEnd, Event, EventOutcome, Made, Start, Started, State, Step, Theory, makes, next, with_answer}
use Rattle.atomic_programs.specs.Plain.{PlainMade, by_kind, erase}
use Rattle.calls_on_blocks.specs.History.{block_moves}
use Rattle.calls_on_blocks.specs.Theory.{block_calls, block_code}
use Rattle.fs_layout.specs.declared.superblock.Super.{Super}
use Rattle.fs_machine.specs.LogPart.{Passes}
use Rattle.hart_core.specs.Events.{came_of, event_of, said_of}
use Rattle.hart_core.specs.Harts.{HartsOf, shared_of}
use Rattle.hart_core.specs.Telling.{NotesEvent, SetsAt, StaysAt}
use Rattle.hart_core.specs.Worlds.{Makes, calls_of}
use Rattle.hart_core.specs.declared.events.Came.{Came}
use Rattle.hart_core.specs.declared.events.Came.TheVariants as came
use Rattle.hart_core.specs.declared.events.Event.{Event as HartEvent}
use Rattle.hart_core.specs.declared.events.Event.TheVariants as event
use Rattle.hart_core.specs.declared.outcome.Outcome.TheVariants as outcome
use Rattle.hart_core.specs.declared.outcome.Stop.TheVariants as stop
use Rattle.inode_machine.specs.Kept.{kept_start, kept_step, told_of}
use Rattle.inode_machine.specs.Kept.{kept_on, placed}
use Rattle.inode_machine.specs.Making.{MakesPlaced}
use Rattle.inode_machine.specs.MoveCalls.{MoveMachine}
use Rattle.inode_machine.specs.Vocabulary.{MoveStep}
use Rattle.plain_tree.specs.Tree.{tree_of}
use Rattle.plain_tree.specs.declared.answer.Reply.{Reply}
use Rattle.plain_tree.specs.declared.call.Call.{Call}
use Rattle.run_laws.specs.UnderWay.{RunsAStep, StartDoes, StepDoes, StepsPlaceInTime, UnderWay}
use Rattle.run_laws.specs.Vocabulary.{Outside, or_else}
use Rattle.tree_histories.specs.Keeping.{KeptTree}
use Rattle.tree_laws.specs.History.{History}
use Rattle.tree_laws.specs.Moves.{Stage}
use Rattle.kept_histories.specs.Keeps.{KeepsEvent, Passes as JustPasses}
use Rattle.kept_histories.proofs.Agreeing.{Agrees}
use Rattle.kept_histories.proofs.Amid.{are_amid}
use Rattle.kept_histories.proofs.EachEvent.{Known}
use Rattle.kept_histories.proofs.EventSteps.{HasRun, IsQuiet, Rests, ended_is, made_so, ran_is, refused_is, rests, run_off, started_is}
use Rattle.kept_histories.proofs.Passing.{pass_agrees, start_agrees}
use Rattle.kept_histories.proofs.RanSteps.{ran_on, ran_out}
use Rattle.kept_histories.proofs.StepMarks.{SeesAlike}

module _ {D : Type 0} (contents : D → List (List ℕ)) (failures : D → ℕ) (sizes : Super) (in_time : StepsPlaceInTime) (s : State (block_calls sizes))
    (was now : ℕ → Option UnderWay) (b : History) (old new : HartsOf D) (k k' : KeptTree) (agree : Agrees contents failures sizes s b old k was)
    (few : k.calls < 2 ^ 64 - 1) where
  abbrev L : Theory
  L = block_calls sizes

  abbrev N : MoveMachine
  N = block_moves sizes

  -- so it is after the event
  abbrev pub AgreesAfter : Event Call Outside → Type 0
  AgreesAfter f = Agrees contents failures sizes (next L f s) (kept_on sizes.version N f s b) new k' now

  came_as : (f : Event Call Outside) (c : Came) → Makes contents failures sizes f old (came_of c) new → by_kind L (block_code sizes) (makes L f s).came ≡ came_of c
  came_as f c m = ap (λ (z : PlainMade L (block_code sizes)). z.came) (made_so sizes contents failures f s old new (came_of c) agree.code m)

  after_as : (f : Event Call Outside) (c : Came) → Makes contents failures sizes f old (came_of c) new → erase L (block_code sizes) (makes L f s).after ≡ calls_of contents failures sizes new
  after_as f c m = ap (λ (z : PlainMade L (block_code sizes)). z.after) (made_so sizes contents failures f s old new (came_of c) agree.code m)

  -- the kept tree is the theory's, settled
  sees : (h : ℕ) (made : Made (block_calls sizes)) (r : RunsAStep sizes h Passes s made was now) → Known sizes (Step h Passes) s was now → HasRun (makes L (Step h Passes) s).came
      → SeesAlike sizes.version r.under (tree_of k.tree) s.world.seen (r.rest r.answer) (or_else r.acts r.under.acted)
  sees h made r known ran = known.sees h made r (run_off sizes h Passes s (s.running h) ran) (tree_of k.tree) (ap (λ (m : Stage). m.tree) agree.stage)

  quiet_event : (h : ℕ) (x : Outside) (c : Came) → Makes contents failures sizes (Step h x) old (came_of c) new → IsQuiet (came_of c)
      → Known sizes (Step h x) s was now
      → SetsAt h old.calls new.calls → StaysAt (get_or old.calls h None) (get_or new.calls h None) → JustPasses k k' → AgreesAfter (Step h x)
  quiet_event h x c m quiet known sets stays p =
      let r : Rests sizes h x s was now (makes L (Step h x) s).came =
      rests sizes h x s (makes L (Step h x) s) was now (makes L (Step h x) s).came (subst (λ z. IsQuiet z) (sym (came_as (Step h x) c m)) quiet) known.does in
      let same : N.tree (next L (Step h x) s).world ≡ N.tree s.world =
      subst (λ (ps : List (ℕ × MoveStep)). MakesPlaced sizes.version h (N.tree s.world) ps (N.tree (next L (Step h x) s).world)) r.places known.moves in
      subst (λ (z : History). Agrees contents failures sizes (next L (Step h x) s) z new k' now)
      (sym (r.shows (N.tree s.world) (N.tree (next L (Step h x) s).world) (told_of N (placed sizes.version N (Step h x) s)) b))
      (pass_agrees contents failures sizes h s (next L (Step h x) s) was now b old new k k' agree sets (after_as (Step h x) c m) same r.still stays p)

  start_event : (h : ℕ) (call : Call) (c : Came) (n : NotesEvent contents failures (λ a d x z. KeepsEvent a (event.Start h call) d x z) sizes (event.Start h call) old k c new k')
      → Known sizes (Start h call) s was now → AgreesAfter (Start h call)
  start_event h call came.Started n known =
      let o : EventOutcome L = (makes L (Start h call) s).came in
      let is : o ≡ Started = started_is sizes o (came_as (Start h call) came.Started n.makes) in
      subst (λ (z : EventOutcome L). Agrees contents failures sizes (next L (Start h call) s) (kept_start N h call z b) new k' now) (sym is)
      (start_agrees contents failures sizes h s (next L (Start h call) s) was now b old new k k' agree n.tells.others (after_as (Start h call) came.Started n.makes) known.moves
      call n.tells.place.0 n.tells.place.1 (subst (λ (z : EventOutcome L). StartDoes sizes h call z was now) is known.does) n.fits.long few (n.took n.tells.place.2))
  start_event h call (came.Refused why) n known =
      let o : EventOutcome L = (makes L (Start h call) s).came in
      let is = refused_is sizes o _ (came_as (Start h call) (came.Refused why) n.makes) in
      subst (λ (z : EventOutcome L). Agrees contents failures sizes (next L (Start h call) s) (kept_start N h call z b) new k' now) (sym is.1)
      (pass_agrees contents failures sizes h s (next L (Start h call) s) was now b old new k k' agree n.tells.others (after_as (Start h call) (came.Refused why) n.makes) known.moves
      (subst (λ (z : EventOutcome L). StartDoes sizes h call z was now) is.1 known.does) n.tells.place n.took)
  start_event h call (came.Stepped out) n known = absurd n.tells.place

  ran_event : (h : ℕ) (kind : _) (n : NotesEvent contents failures (λ a d x z. KeepsEvent a (event.Step h) d x z) sizes (event.Step h) old k (came.Stepped (outcome.Ran kind)) new k')
      → Known sizes (Step h Passes) s was now → AgreesAfter (Step h Passes)
  ran_event h kind n known =
      let made : Made L = makes L (Step h Passes) s in
      let c : Came = came.Stepped (outcome.Ran kind) in
      let is = ran_is sizes made.came kind (came_as (Step h Passes) c n.makes) in
      let r : RunsAStep sizes h Passes s made was now = subst (λ (z : EventOutcome L). StepDoes sizes h Passes s made z was now) is.1 known.does in
      subst (λ (z : EventOutcome L). Agrees contents failures sizes made.after (kept_step N h z (N.tree s.world) (N.tree made.after.world) (told_of N (placed sizes.version N (Step h Passes) s)) b) new k' now) (sym is.1)
      (ran_on contents failures sizes in_time h s made was now r b old new k agree None n.heard n.tells.place n.tells.others n.took.amid n.took.runs known.moves
      (after_as (Step h Passes) c n.makes) (are_amid contents failures new n.fits) known.found known.clean (sees h made r known (subst HasRun (sym is.1) tt))
      refl made.after refl k' n.took.ends)

  done_event : (h : ℕ) (reply : Reply) (n : NotesEvent contents failures (λ a d x z. KeepsEvent a (event.Step h) d x z) sizes (event.Step h) old k (came.Stepped (outcome.Done reply)) new k')
      → Known sizes (Step h Passes) s was now → AgreesAfter (Step h Passes)
  done_event h reply n known =
      let made : Made L = makes L (Step h Passes) s in
      let c : Came = came.Stepped (outcome.Done reply) in
      let is : made.came ≡ DidEnd reply = ended_is sizes made.came reply (came_as (Step h Passes) c n.makes) in
      let r : RunsAStep sizes h Passes s made was now = subst (λ (z : EventOutcome L). StepDoes sizes h Passes s made z was now) is known.does in
      subst (λ (z : EventOutcome L). Agrees contents failures sizes made.after (kept_step N h z (N.tree s.world) (N.tree made.after.world) (told_of N (placed sizes.version N (Step h Passes) s)) b) new k' now) (sym is)
      (ran_out contents failures sizes in_time h s made was now r b old new k agree (Some tt) n.heard n.tells.place n.tells.others n.took.amid n.took.runs known.moves
      (after_as (Step h Passes) c n.makes) (are_amid contents failures new n.fits) known.found known.clean (sees h made r known (subst HasRun (sym is) tt))
      tt refl (known.rests h) made.after refl k' reply n.took.ends)

  -- An event that code makes and reports to the keeper takes all three on together.
  pub event_agrees : (e : HartEvent) (c : Came) (n : NotesEvent contents failures (λ a d x z. KeepsEvent a e d x z) sizes e old k c new k')
      → let f = with_answer (event_of e) (said_of c (shared_of contents failures new)) in
      Known sizes f s was now → AgreesAfter f
  event_agrees (event.Start h call) c n known = start_event h call c n known
  event_agrees (event.Step h) came.Started n known = absurd n.tells.place
  event_agrees (event.Step h) (came.Refused why) n known = absurd n.tells.place
  event_agrees (event.Step h) (came.Stepped outcome.Idle) n known =
      quiet_event h Passes (came.Stepped outcome.Idle) n.makes tt known n.tells.others n.tells.place n.took
  event_agrees (event.Step h) (came.Stepped outcome.Waits) n known =
      quiet_event h Passes (came.Stepped outcome.Waits) n.makes tt known n.tells.others n.tells.place n.took
  event_agrees (event.Step h) (came.Stepped (outcome.Ran kind)) n known = ran_event h kind n known
  event_agrees (event.Step h) (came.Stepped (outcome.Done reply)) n known = done_event h reply n known
  event_agrees (event.Step h) (came.Stepped (outcome.Stopped stop.DeviceFault)) n known =
      quiet_event h _ (came.Stepped (outcome.Stopped stop.DeviceFault)) n.makes tt known n.tells.others n.tells.place n.took
  event_agrees (event.Step h) (came.Stepped (outcome.Stopped stop.Halted)) n known =
      quiet_event h _ (came.Stepped (outcome.Stopped stop.Halted)) n.makes tt known n.tells.others n.tells.place n.took
