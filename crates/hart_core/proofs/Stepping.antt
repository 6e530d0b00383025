-- A call's step in its hart's place.
use Rattle.hart_core.proofs.Vocabulary.{◌≡◌, ◌≢◌, ◌<◌, ◌≤◌, ℕ, zero, suc, Bool, true, false, List, [], ◌∷◌, Option, Some, None, refl, sym, ◌∙◌, ap, subst, length, get_or, set, replicate, length-set, get_or-set_same, get_or-set_other, arith, nat_eq, slice_get, eqb-true, eqb-false, get_or_past, set-set, Reply, Ret, Do, plain, Start, Step, Started, WasIdle, DidRun, PlainHonestStep, plain_makes, plain_step, hart_step, hart_moved, PlainHonest, program_at, plain_at, hart_advances, start_gives, Kind, Core, Heard, Outside, Passes, state_of, P, LeavesTied, Running, running_of, HasBegun, StepsAt, has_running, stays, HasOne, blocks, code, HartFits, AreHarts, block_calls, Call, Super}
use Rattle.atomic_programs.specs.declared.machines.SteppedInPlace.TheVariants.{Ran}
use Rattle.fs_machine.specs.Steps.{State}

-- ---- marks

no_mark : (m : Option ⊥) → None ≡ m
no_mark None = refl
no_mark (Some x) = absurd x

-- there are no marks to be left out
pub plain_same : {A : Type 0} (p : P A) → plain p ≡ p
plain_same (Ret a) = refl
plain_same (Do op m k) = λ i. Do op (λ a. no_mark (m a) i) (λ a. plain_same (k a) i)

-- ---- a step

moved_on : (p : P Reply) (kind : Kind) (t : State) → HasOne p → hart_moved blocks code false kind p t ≡ record { came = DidRun kind; left = Some p; shared = t; stopped = false }
moved_on (Ret a) kind t has = absurd has
moved_on (Do op m k) kind t has = refl

-- a call that goes on has an operation to make
module _ {D : Type 0} (contents : D → List (List ℕ)) (failures : D → ℕ) (Called : D → D → Type 0) (h : ℕ) (old new : Core D) where
  abbrev s : State
  s = state_of contents failures old

  abbrev t : State
  t = state_of contents failures new

  pub ran : (kind : Kind) (last : Option Heard) (o p : Option Running) → StepsAt contents failures Called h o p (Ran kind) last old new
      → hart_step blocks code h Passes s false (program_at running_of o) ≡ record { came = DidRun kind; left = program_at running_of p; shared = t; stopped = false }
  ran kind last None p steps = absurd steps
  ran kind last (Some m) p steps =
      hart_advances blocks code h Passes s (running_of m) _ steps.2.moves
      ∙ moved_on (running_of steps.0) kind t (has_running h t steps.0 steps.2.fits)
      ∙ (λ i. record { came = DidRun kind; left = program_at running_of (sym steps.1 i); shared = t; stopped = false })

-- ---- the table

place_stays : (k h : ℕ) (s t : State) (o : Option Running) → k ≢ h → LeavesTied h s t → HartFits s k o → HartFits t k o
place_stays k h s t None other leaves fits = tt
place_stays k h s t (Some m) other leaves fits = stays k h s t other leaves m fits

-- hart h's place is filled in the state that its step led to
pub all_set : (h : ℕ) (s t : State) (calls two : List (Option Running)) (left : Option Running) → h < length calls → two ≡ set calls h left → LeavesTied h s t → AreHarts s calls → HartFits t h left → AreHarts t two
all_set h s t calls two left room is leaves all mine = record {
  long = ap length is ∙ length-set calls h left ∙ all.long;
  fits = λ k. subst (λ (z : List (Option Running)). HartFits t k (get_or z k None)) (sym is) (each k (nat_eq k h) refl);
}
  where
    each : (k : ℕ) (d : Bool) → nat_eq k h ≡ d → HartFits t k (get_or (set calls h left) k None)
    each k true e =
        subst (λ (j : ℕ). HartFits t j (get_or (set calls h left) j None)) (sym (eqb-true k h e))
        (subst (HartFits t h) (sym (get_or-set_same calls h left None room)) mine)
    each k false e =
        subst (HartFits t k) (sym (get_or-set_other calls h k left None (eqb-false k h e)))
        (place_stays k h s t (get_or calls k None) (eqb-false k h e) leaves (all.fits k))

-- what a hart does
pub is_at : {A : Type 0} (list : List (Option A)) (h : ℕ) → h < length list → slice_get list h ≡ Some (get_or list h None)
is_at [] h lt = absurd (omega (arith, lt))
is_at (m ∷ ms) zero lt = refl
is_at (m ∷ ms) (suc h) lt = is_at ms h (omega (arith, lt))

-- nothing is in any place
pub none_of : {A : Type 0} (n h : ℕ) → ◌≡◌ {A = Option A} (get_or (replicate n None) h None) None
none_of zero zero = refl
none_of zero (suc h) = refl
none_of (suc n) zero = refl
none_of (suc n) (suc h) = none_of n h

-- idle harts have nothing in hand
pub nones : (n h : ℕ) → ◌≡◌ {A = Option Running} (get_or (replicate n None) h None) None
nones n h = none_of n h

pub all_idle : (s : State) → AreHarts s (replicate 8 None)
all_idle s = record { long = refl; fits = λ h. subst (HartFits s h) (sym (nones 8 h)) tt }

-- a hart that changes nothing leaves what is another's
pub leaves_same : (h : ℕ) (s : State) → LeavesTied h s s
leaves_same h s = record { buffers = λ guard other tied. tied; inodes = λ guard other locked. locked }

-- past the last hart
module _ (h : ℕ) (x : Outside) (s : State) (b : Bool) (calls : List (Option Running)) (past : length calls ≤ h) where
  nobody : get_or calls h None ≡ None
  nobody = get_or_past calls h None past

  pub idle_past : plain_makes blocks code (Step h x) (plain_at blocks code running_of s b calls) ≡ record { came = WasIdle; after = plain_at blocks code running_of s b calls }
  idle_past = ap (λ (o : Option Running). plain_step blocks code h x (plain_at blocks code running_of s b calls) (program_at running_of o)) nobody

  none_asked : (c : Bool) → PlainHonestStep blocks code h x s c None
  none_asked true = tt
  none_asked false = tt

  pub honest_past : PlainHonest blocks code (Step h x) (plain_at blocks code running_of s b calls)
  honest_past = subst (λ (o : Option Running). PlainHonestStep blocks code h x s b (program_at running_of o)) (sym nobody) (none_asked b)

-- what has begun has nothing in hand, so it goes with any state
pub begun_fits : (sizes : Super) (call : Call) (place : Option Running) (h : ℕ) (s : State) → HasBegun sizes call place → HartFits s h place
begun_fits sizes call None h s has = absurd has
begun_fits sizes call (Some m) h s has = has.1 h s

-- a call is begun
pub begun : (h : ℕ) (s : State) (b : Bool) (calls two : List (Option Running)) (call : Running) → slice_get calls h ≡ Some None → two ≡ set calls h (Some call)
    → plain_makes blocks code (Start h (running_of call)) (record { shared = s; stopped = b; running = λ k. program_at running_of (get_or calls k None) })
    ≡ record { came = Started; after = record { shared = s; stopped = b; running = λ k. program_at running_of (get_or two k None) } }
begun h s b calls two call at is =
    start_gives blocks code running_of s b calls h None (Some call) (set calls h None) two at refl (is ∙ sym (set-set calls h None (Some call))) (running_of call) Started s b
    (λ i. record { came = Started; left = Some (plain_same (running_of call) i); shared = s; stopped = b })

-- the same of the call in its place
pub begun_in : (sizes : Super) (call : Call) (h : ℕ) (s : State) (b : Bool) (calls two : List (Option Running)) (place : Option Running) → HasBegun sizes call place → slice_get calls h ≡ Some None → two ≡ set calls h place
    → plain_makes blocks code (Start h (plain ((block_calls sizes).program call))) (record { shared = s; stopped = b; running = λ k. program_at running_of (get_or calls k None) })
    ≡ record { came = Started; after = record { shared = s; stopped = b; running = λ k. program_at running_of (get_or two k None) } }
begun_in sizes call h s b calls two None has at is = absurd has
begun_in sizes call h s b calls two (Some m) has at is =
    subst (λ (p : P Reply). plain_makes blocks code (Start h p) (record { shared = s; stopped = b; running = λ k. program_at running_of (get_or calls k None) })
    ≡ record { came = Started; after = record { shared = s; stopped = b; running = λ k. program_at running_of (get_or two k None) } }) has.0 (begun h s b calls two m at is)
