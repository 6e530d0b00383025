-- What a step shows of the call of its hart.
use Rattle.hart_core.proofs.Vocabulary.{◌≡◌, ℕ, zero, suc, List, [], ◌∷◌, ◌++◌, Super, HartsOf, Option, Some, None, refl, sym, ◌∙◌, ap, subst, get_or, set, slice_get, Reply, Kind, Core, Heard, state_of, Running, StepsAt}
use Rattle.atomic_programs.specs.declared.machines.SteppedInPlace.TheVariants.{Waits, Ran, Done, Stopped}
use Rattle.fs_machine.specs.Steps.{State}
use Rattle.hart_core.specs.Vocabulary.{LeavesTied}
use Rattle.hart_core.specs.Telling.{NotesEvent, NotesRun, RanAt, StaysAt, TellsOutcome, heard_at}
use Rattle.hart_core.specs.declared.events.Came.{Came}
use Rattle.hart_core.specs.declared.events.Event.{Event}
use Rattle.hart_core.specs.declared.outcome.Outcome.TheVariants as outcome

pub stays_same : (o : Option Running) → StaysAt o o
stays_same None = refl
stays_same (Some m) = (refl, refl)

-- a place holds what is put there
pub set-own : (list : List (Option Running)) (h : ℕ) → list ≡ set list h (get_or list h None)
set-own [] h = refl
set-own (m ∷ ms) zero = refl
set-own (m ∷ ms) (suc h) = ap (λ (l : List (Option Running)). m ∷ l) (set-own ms h)

pub none_there : (list : List (Option Running)) (h : ℕ) → slice_get list h ≡ Some None → get_or list h None ≡ None
none_there [] h e = refl
none_there (m ∷ ms) zero e = cc e
none_there (m ∷ ms) (suc h) e = none_there ms h e

stays_here : (m left : Running) (p : Option Running) → p ≡ Some left → (left.control ≡ m.control) × (left.hand ≡ m.hand) → StaysAt (Some m) p
stays_here m left p is same = subst (StaysAt (Some m)) (sym is) same

module _ {D : Type 0} (contents : D → List (List ℕ)) (failures : D → ℕ) (Called : D → D → Type 0) (h : ℕ) (last : Option Heard) (old new : Core D) where
  abbrev s : State
  s = state_of contents failures old

  abbrev t : State
  t = state_of contents failures new

  pub waits_tells : (o p : Option Running) → StepsAt contents failures Called h o p Waits last old new → StaysAt o p
  waits_tells None p steps = absurd steps
  waits_tells (Some m) p steps = stays_here m steps.0 p steps.1 steps.2.tells

  pub stops_tells : (o p : Option Running) → StepsAt contents failures Called h o p Stopped last old new → StaysAt o p
  stops_tells None p steps = absurd steps
  stops_tells (Some m) p steps = stays_here m steps.0 p steps.1 steps.2.tells

  pub ran_tells : (kind : Kind) (o p : Option Running) → StepsAt contents failures Called h o p (Ran kind) last old new → RanAt h o None (heard_at last p) p s t
  ran_tells kind None p steps = absurd steps
  ran_tells kind (Some m) p steps = (steps.0, steps.2.tells, ap (heard_at last) steps.1, steps.1)

  pub done_tells : (kind : Kind) (reply : Reply) (o p : Option Running) → StepsAt contents failures Called h o p (Done reply kind) last old new
      → TellsOutcome h o (outcome.Done reply) (heard_at last p) p s t
  done_tells kind reply None p steps = absurd steps
  done_tells kind reply (Some m) p steps = (steps.0, steps.2.tells.0, ap (heard_at last) steps.1 ∙ steps.2.tells.1, steps.1)

  pub done_others : (kind : Kind) (reply : Reply) (o p : Option Running) → StepsAt contents failures Called h o p (Done reply kind) last old new
      → LeavesTied h s t
  done_others kind reply None p steps = absurd steps
  done_others kind reply (Some m) p steps = steps.2.others

-- ---- of a run

module _ {D : Type 0} (contents : D → List (List ℕ)) (failures : D → ℕ) {O : Type 0} (Took : O → Came → Option Heard → O → Type 0) (sizes : Super) where
  pub notes_none : (w : HartsOf D) (a : O) → NotesRun contents failures Took sizes w a [] [] w a
  notes_none w a = (refl, refl)

  -- one event more
  pub notes_more : (old : HartsOf D) (before : O) (es : List Event) (cs : List Came) (w : HartsOf D) (a : O) (e : Event) (c : Came) (new : HartsOf D) (b : O)
      → NotesRun contents failures Took sizes old before es cs w a → NotesEvent contents failures Took sizes e w a c new b
      → NotesRun contents failures Took sizes old before (es ++ e ∷ []) (cs ++ c ∷ []) new b
  notes_more old before [] [] w a e c new b run one =
      (new, b, subst (λ (v : HartsOf D). NotesEvent contents failures Took sizes e v before c new b) run.0 (subst (λ (o : O). NotesEvent contents failures Took sizes e w o c new b) run.1 one), (refl, refl))
  notes_more old before [] (d ∷ ds) w a e c new b run one = absurd run
  notes_more old before (f ∷ fs) [] w a e c new b run one = absurd run
  notes_more old before (f ∷ fs) (d ∷ ds) w a e c new b run one =
      (run.0, run.1, run.2, notes_more run.0 run.1 fs ds w a e c new b run.3 one)
