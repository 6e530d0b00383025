-- One event: the theory's state, code's harts and the kept tree agree after it as before it.
use Rattle.std.specs.Prelude.{◌≡◌, ℕ, Bool, true, false, List, [], Option, Some, None}
use Rattle.calls_on_blocks.proofs.Vocabulary.{refl, sym, ◌∙◌, ap}
use Rattle.calls_on_blocks.proofs.Lawful.{is_code}
use Rattle.atomic_programs.proofs.Erased.{erase-makes, erased}
use Rattle.atomic_programs.specs.Calls.{DidEnd, DidRun, DidStop, DidWait, Event, EventOutcome, Made, Outcome, Refused, Run, Started, State, Step, Theory, WasIdle, WasStopped, makes, step_run, step_unless}
use Rattle.atomic_programs.specs.Plain.{Code, PlainMade, by_kind, erase, plain_makes}
use Rattle.calls_on_blocks.specs.History.{block_moves}
use Rattle.calls_on_blocks.specs.Theory.{block_calls, block_code}
use Rattle.fs_layout.specs.declared.superblock.Super.{Super}
use Rattle.hart_core.specs.Harts.{HartsOf}
use Rattle.hart_core.specs.Worlds.{Makes, calls_of}
use Rattle.inode_machine.specs.Kept.{kept_step}
use Rattle.inode_machine.specs.Kept.{placed}
use Rattle.inode_machine.specs.MoveCalls.{MoveMachine}
use Rattle.plain_tree.specs.declared.answer.Reply.{Reply}
use Rattle.plain_tree.specs.declared.call.Call.{Call}
use Rattle.run_laws.specs.UnderWay.{StepDoes, UnderWay}
use Rattle.run_laws.specs.Vocabulary.{Outside}
use Rattle.tree_laws.specs.History.{History, passes}
use Rattle.tree_laws.specs.Moves.{Deed, Stage}

-- ---- the outcome of an event, in code and in the theory

module _ (sizes : Super) where
  abbrev L : Theory
  L = block_calls sizes

  abbrev C : Code L
  C = block_code sizes

  abbrev N : MoveMachine
  N = block_moves sizes

  pub started_is : (o : EventOutcome (block_calls sizes)) → by_kind (block_calls sizes) (block_code sizes) o ≡ Started → o ≡ Started
  started_is Started e = refl
  started_is (Refused why) e = absurd cc
  started_is WasIdle e = absurd cc
  started_is DidWait e = absurd cc
  started_is (DidRun did) e = absurd cc
  started_is (DidEnd reply) e = absurd cc
  started_is DidStop e = absurd cc
  started_is WasStopped e = absurd cc

  pub refused_is : (o : EventOutcome (block_calls sizes)) (why : _) → by_kind (block_calls sizes) (block_code sizes) o ≡ Refused why → (w : _) × (o ≡ Refused w)
  refused_is Started why e = absurd cc
  refused_is (Refused w) why e = (w, refl)
  refused_is WasIdle why e = absurd cc
  refused_is DidWait why e = absurd cc
  refused_is (DidRun did) why e = absurd cc
  refused_is (DidEnd reply) why e = absurd cc
  refused_is DidStop why e = absurd cc
  refused_is WasStopped why e = absurd cc

  pub ran_is : (o : EventOutcome (block_calls sizes)) (kind : _) → by_kind (block_calls sizes) (block_code sizes) o ≡ DidRun kind → (did : _) × (o ≡ DidRun did)
  ran_is Started kind e = absurd cc
  ran_is (Refused why) kind e = absurd cc
  ran_is WasIdle kind e = absurd cc
  ran_is DidWait kind e = absurd cc
  ran_is (DidRun did) kind e = (did, refl)
  ran_is (DidEnd reply) kind e = absurd cc
  ran_is DidStop kind e = absurd cc
  ran_is WasStopped kind e = absurd cc

  pub ended_is : (o : EventOutcome (block_calls sizes)) (reply : Reply) → by_kind (block_calls sizes) (block_code sizes) o ≡ DidEnd reply → o ≡ DidEnd reply
  ended_is Started reply e = absurd cc
  ended_is (Refused why) reply e = absurd cc
  ended_is WasIdle reply e = absurd cc
  ended_is DidWait reply e = absurd cc
  ended_is (DidRun did) reply e = absurd cc
  ended_is (DidEnd said) reply e = ap DidEnd (let q : said ≡ reply = cc in q)
  ended_is DidStop reply e = absurd cc
  ended_is WasStopped reply e = absurd cc

-- neither ran nor started a call
abbrev pub IsQuiet : {A R F : Type 0} → Outcome A R F → Type 0
IsQuiet Started = ⊥
IsQuiet (Refused why) = ⊥
IsQuiet WasIdle = Unit {0}
IsQuiet DidWait = Unit {0}
IsQuiet (DidRun did) = ⊥
IsQuiet (DidEnd reply) = ⊥
IsQuiet DidStop = Unit {0}
IsQuiet WasStopped = Unit {0}

-- a call ran
abbrev pub HasRun : {A R F : Type 0} → Outcome A R F → Type 0
HasRun Started = ⊥
HasRun (Refused why) = ⊥
HasRun WasIdle = ⊥
HasRun DidWait = ⊥
HasRun (DidRun did) = Unit {0}
HasRun (DidEnd reply) = Unit {0}
HasRun DidStop = ⊥
HasRun WasStopped = ⊥

module _ (sizes : Super) where
  -- in a world that isn't stopped
  unless_off : (h : ℕ) (x : Outside) (s : State (block_calls sizes)) (r : Run (block_calls sizes)) (stopped : Bool) → HasRun (step_unless (block_calls sizes) h x s stopped r).came → stopped ≡ false
  unless_off h x s r true ran = absurd ran
  unless_off h x s r false ran = refl

  pub run_off : (h : ℕ) (x : Outside) (s : State (block_calls sizes)) (o : Option (Run (block_calls sizes))) → HasRun (step_run (block_calls sizes) h x s o).came → s.stopped ≡ false
  run_off h x s None ran = absurd ran
  run_off h x s (Some r) ran = unless_off h x s r s.stopped ran

module _ (sizes : Super) where
  -- a step that didn't run is an event without a move, and shows nothing
  pub record Rests (h : ℕ) (x : Outside) (s : State (block_calls sizes)) (was now : ℕ → Option UnderWay) (o : EventOutcome (block_calls sizes)) : Type 0 where
    pub still : now ≡ was
    pub places : placed sizes.version (block_moves sizes) (Step h x) s ≡ []
    pub shows : (n n' : Stage) (d : Option Deed) (b : History) → kept_step (block_moves sizes) h o n n' d b ≡ passes b

  pub rests : (h : ℕ) (x : Outside) (s : State (block_calls sizes)) (made : Made (block_calls sizes)) (was now : ℕ → Option UnderWay) (o : EventOutcome (block_calls sizes))
      → IsQuiet (by_kind (block_calls sizes) (block_code sizes) o) → StepDoes sizes h x s made o was now → Rests h x s was now o
  rests h x s made was now Started quiet does = absurd quiet
  rests h x s made was now (Refused why) quiet does = absurd quiet
  rests h x s made was now WasIdle quiet does = record { still = does.0; places = does.1; shows = λ n n' d b. refl }
  rests h x s made was now DidWait quiet does = record { still = does.0; places = does.1; shows = λ n n' d b. refl }
  rests h x s made was now (DidRun did) quiet does = absurd quiet
  rests h x s made was now (DidEnd reply) quiet does = absurd quiet
  rests h x s made was now DidStop quiet does = record { still = does.0; places = does.1; shows = λ n n' d b. refl }
  rests h x s made was now WasStopped quiet does = record { still = does.0; places = does.1; shows = λ n n' d b. refl }

  -- what code says that an event made is what the theory makes
  pub made_so : {D : Type 0} (contents : D → List (List ℕ)) (failures : D → ℕ) (f : Event Call Outside) (s : State (block_calls sizes)) (old new : HartsOf D) (c : _)
      → erase (block_calls sizes) (block_code sizes) s ≡ calls_of contents failures sizes old → Makes contents failures sizes f old c new
      → ◌≡◌ {A = PlainMade (block_calls sizes) (block_code sizes)} (erased (block_calls sizes) (block_code sizes) (makes (block_calls sizes) f s)) (record { came = c; after = calls_of contents failures sizes new })
  made_so contents failures f s old new c code m =
      sym (erase-makes (block_calls sizes) (block_code sizes) (is_code sizes) f s) ∙ ap (plain_makes (block_calls sizes) (block_code sizes) f) code ∙ m
