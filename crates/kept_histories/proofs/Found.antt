-- In a run that is clean at its end each operation that has acted found room: its mark doesn't say that there was none.
use Rattle.std.specs.Prelude.{◌≡◌, ◌≢◌, ◌⊎◌, ℕ, true, false, Option, Some, None}
use Rattle.calls_on_blocks.proofs.Vocabulary.{refl, sym, ◌∙◌, ap, subst, inl, inr}
use Rattle.atomic_programs.proofs.Explains.{Some-inj, changed_other, changed_same}
use Rattle.atomic_programs.proofs.Maps.{same_or}
use Rattle.atomic_programs.specs.Calls.{DidEnd, DidRun, Event, EventOutcome, Made, Start, Started, State, Step, changed}
use Rattle.atomic_programs.specs.Joined.{Handover, ran_to}
use Rattle.atomic_programs.specs.Prog.{ExecResult, Waits, Ran, Stops, Ret, Do}
use Rattle.calls_on_blocks.specs.Theory.{block_calls}
use Rattle.fs_layout.specs.declared.superblock.Super.{Super}
use Rattle.inode_machine.specs.Exec.{exec}
use Rattle.inode_machine.specs.Marks.{go, marked, with_mark}
use Rattle.inode_machine.specs.Parts as programs
use Rattle.inode_machine.specs.World as above
use Rattle.inode_machine.specs.World.Mark.{Makes, Frees, Orphans, Fills, Mends, Spoils}
use Rattle.inodes_on_blocks.specs.Handlers.{P}
use Rattle.inodes_on_blocks.specs.Lowering.{Carry}
use Rattle.plain_tree.specs.declared.answer.Reply.{Reply}
use Rattle.plain_tree.specs.declared.call.Call.{Call}
use Rattle.run_laws.proofs.Running.{Goes, goes_on}
use Rattle.call_programs.specs.Asks.{spoils}
use Rattle.run_laws.specs.Searches.{AnsweredStep}
use Rattle.run_laws.specs.UnderWay.{EventDoes, IsMadeBy, RunsAStep, StartDoes, StepDoes, UnderWay, at_beginning, gone_on}
use Rattle.run_laws.specs.Vocabulary.{Outside, or_else}
use Rattle.kept_histories.proofs.Basics.{none_some}
use Rattle.image_versions.specs.declared.version.Version.{Version}

-- ---- an operation that acts

-- a mark that leaves the world clean
marked_room : (version : Version) (h : ℕ) (k : Option above.Mark) (w : above.World) → (marked version h k w).clean ≡ true → spoils k ≡ false
marked_room version h None w e = refl
marked_room version h (Some (Makes v)) w e = refl
marked_room version h (Some (Frees n)) w e = refl
marked_room version h (Some (Orphans n)) w e = refl
marked_room version h (Some Fills) w e = absurd cc
marked_room version h (Some Mends) w e = absurd cc
marked_room version h (Some (Spoils s)) w e = absurd cc

ran_room : (version : Version) {A : Type 0} (h : ℕ) (m : A → Option above.Mark) (v w : above.World) (a : A) (d : ExecResult A above.World) → Goes h v d → with_mark version h m d ≡ Ran a w → w.clean ≡ true → spoils (m a) ≡ false
ran_room version h m v w a Waits g e clean = absurd cc
ran_room version h m v w a (Stops u) g e clean = absurd g
ran_room version h m v w a (Ran b u) g e clean =
    let same : b ≡ a = cc in
    ap (λ (z : _). spoils (m z)) (sym same) ∙ marked_room version h (m b) u (ap (λ (z : above.World). z.clean) (ap (ran_to w) e) ∙ clean)

pub acts_room : (version : Version) (h : ℕ) (x : above.Outside) (op : above.Op) (m : above.Answer op → Option above.Mark) (v w : above.World) (a : above.Answer op) → go version h x op m v ≡ Ran a w → w.clean ≡ true → spoils (m a) ≡ false
acts_room version h x op m v w a e clean = ran_room version h m v w a (exec version h x op v) (goes_on version h x op v) e clean

-- ---- the operations under way

-- if it has acted, it found room
abbrev pub FoundBy : UnderWay → Type 0
FoundBy u = (a : above.Answer u.op) → u.acted ≡ Some a → spoils (u.mark a) ≡ false

abbrev pub AllFound : (ℕ → Option UnderWay) → Type 0
AllFound under = (h : ℕ) (u : UnderWay) → under h ≡ Some u → FoundBy u

begun_found : (sizes : Super) (c : Carry) (p : programs.P Reply) (u : UnderWay) → at_beginning sizes c p ≡ Some u → FoundBy u
begun_found sizes c (Ret r) u e = none_some u e
begun_found sizes c (Do op m k) u e = subst FoundBy (Some-inj _ u e) (λ a q. none_some a q)

gone_found : (sizes : Super) (u : UnderWay) (acted : Option (above.Answer u.op)) (step : AnsweredStep) (left : P (Handover (above.Answer u.op) Carry)) (v : UnderWay)
    → ((a : above.Answer u.op) → acted ≡ Some a → spoils (u.mark a) ≡ false) → gone_on sizes u acted step left ≡ Some v → FoundBy v
gone_found sizes u acted step (Ret z) v found e = begun_found sizes z.carry (u.rest z.answer) v e
gone_found sizes u acted step (Do op m k) v found e = subst FoundBy (Some-inj _ v e) found

changed_found : (was now : ℕ → Option UnderWay) (h : ℕ) (o : Option UnderWay) → now ≡ changed was h o → ((u : UnderWay) → o ≡ Some u → FoundBy u) → AllFound was → AllFound now
changed_found was now h o is new all j u e = by (same_or j h)
  where
    at : now j ≡ changed was h o j
    at = ap (λ (f : ℕ → Option UnderWay). f j) is

    by : (j ≡ h) ⊎ (j ≢ h) → FoundBy u
    by (inl same) = new u (sym (changed_same was h o j same) ∙ sym at ∙ e)
    by (inr ne) = all j u (sym (changed_other was h o j ne) ∙ sym at ∙ e)

-- ---- a step

module _ (sizes : Super) (h : ℕ) (x : Outside) (s : State (block_calls sizes)) (made : Made (block_calls sizes)) (was now : ℕ → Option UnderWay) (r : RunsAStep sizes h x s made was now)
    (clean : made.after.world.seen.clean ≡ true) where
  -- it has found room if it has acted by then
  pub acted_room : AllFound was → (a : above.Answer r.under.op) → or_else r.acts r.under.acted ≡ Some a → spoils (r.under.mark a) ≡ false
  acted_room all a e = by r.acts r.does e
    where
      by : (acts : Option (above.Answer r.under.op)) → IsMadeBy sizes.version h r.under acts s.world.seen made.after.world.seen → or_else acts r.under.acted ≡ Some a → spoils (r.under.mark a) ≡ false
      by None does e = all h r.under r.is a e
      by (Some b) does e =
          ap (λ (z : above.Answer r.under.op). spoils (r.under.mark z)) (sym (Some-inj b a e))
          ∙ acts_room sizes.version h does.0.0 r.under.op r.under.mark s.world.seen made.after.world.seen b does.0.1 clean

  step_found : AllFound was → AllFound now
  step_found all =
      changed_found was now h (gone_on sizes r.under (or_else r.acts r.under.acted) (r.op, r.answer) (r.rest r.answer)) r.goes_on
      (λ u. gone_found sizes r.under (or_else r.acts r.under.acted) (r.op, r.answer) (r.rest r.answer) u (acted_room all)) all

-- ---- an event

module _ (sizes : Super) (s : State (block_calls sizes)) (made : Made (block_calls sizes)) (was now : ℕ → Option UnderWay) where
  started_found : (h : ℕ) (call : Call) (came : EventOutcome (block_calls sizes)) → StartDoes sizes h call came was now → AllFound was → AllFound now
  started_found h call Started does all = changed_found was now h _ does (λ u e. begun_found sizes _ _ u e) all
  started_found h call came does all = subst AllFound (sym does) all

  stepped_found : (h : ℕ) (x : Outside) (came : EventOutcome (block_calls sizes)) → StepDoes sizes h x s made came was now → made.after.world.seen.clean ≡ true → AllFound was → AllFound now
  stepped_found h x (DidRun did) does clean all = step_found sizes h x s made was now does clean all
  stepped_found h x (DidEnd reply) does clean all = step_found sizes h x s made was now does clean all
  stepped_found h x came does clean all = subst AllFound (sym does.0) all

  -- So it is after each event.
  pub event_found : (f : Event Call Outside) → EventDoes sizes f s made was now → made.after.world.seen.clean ≡ true → AllFound was → AllFound now
  event_found (Start h call) does clean all = started_found h call made.came does all
  event_found (Step h x) does clean all = stepped_found h x made.came does clean all
