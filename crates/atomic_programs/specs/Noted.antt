-- Layers, event by event: the operations below as they run, and among them those above as they act.
use Rattle.std.specs.Prelude.{◌≡◌, ◌⊎◌, ℕ, List, [], ◌∷◌}
use Rattle.atomic_programs.specs.Basics.{Ret, Do, Machine, P, OpWithAnswer, Theory, PlacedStep, BeginsWhole, Event, AllHonest, outcomes, run, fresh, LowerLayer, joined, Handlers, Starts, lowered_calls, Core, operations, operations_of}
use Rattle.atomic_programs.specs.Explained.{history}

-- An operation ran, with its answer; or a step was placed.
pub data Note (E S : Type 0) : Type 0 where
  Runs : E → Note E S
  Places : S → Note E S

abbrev pub Notes : Machine → Type 0
Notes L = List (Note (OpWithAnswer L) L.Step)

abbrev pub noted_steps : {E S : Type 0} → List (ℕ × S) → List (ℕ × Note E S)
noted_steps [] = []
noted_steps (p ∷ ps) = (p.0, Places p.1) ∷ noted_steps ps

-- that an operation ran changes nothing
abbrev pub TakesNoted : (L : Machine) → L.Tree → ℕ → Note (OpWithAnswer L) L.Step → L.Tree → Type 0
TakesNoted L t h (Runs e) u = u ≡ t
TakesNoted L t h (Places x) u = L.Takes t h x u

-- A machine that places a hart's steps at its own events alone: each operation that runs is noted, right before what
-- it places, at the same event.
abbrev pub noted : Machine → Machine
noted L =
    record {
      Op = L.Op;
      Answer = L.Answer;
      Mark = L.Mark;
      Step = Note (OpWithAnswer L) L.Step;
      World = L.World;
      Tree = L.Tree;
      more = L.more;
      Outside = L.Outside;
      Honest = L.Honest;
      May = L.May;
      go = L.go;
      places = λ h op a m w. (h, Runs (op, a)) ∷ noted_steps (L.places h op a m w);
      tree = L.tree;
      Takes = TakesNoted L;
      Inv = L.Inv;
      Halted = L.Halted;
      Others = λ h v xs w. (xs ≡ []) × L.Others h v [] w;
      Idle = L.Idle;
      MayWait = L.MayWait;
      Clean = L.Clean;
    }

-- first the program's operations, and nothing else; then what is Then, of what the program ends with
abbrev pub After : (L : Machine) → {A : Type 0} → P L A → Notes L → (A → Notes L → Type 0) → Type 0
After L (Ret a) es Then = Then a es
After L (Do op m k) [] Then = ⊥
After L (Do op m k) (e ∷ es) Then = (a : L.Answer op) × (e ≡ Runs (op, a)) × After L (k a) es Then

-- first a step of the form `entry`, then the program's operations; then what is Then
abbrev pub Now : (L : Machine) → {A B : Type 0} → (B → L.Step) → P L A → Notes L → (B → A → Notes L → Type 0) → Type 0
Now L {A} {B} entry p [] Then = ⊥
Now L {A} {B} entry p (e ∷ es) Then = (b : B) × (e ≡ Places (entry b)) × After L p es (Then b)

-- First the program's operations, and right after one of them one step of the form `entry`. It is placed at that
-- operation's event, so neither before the first one nor after the last. Then what is Then.
abbrev pub Within : (L : Machine) → {A B : Type 0} → (B → L.Step) → P L A → Notes L → (B → A → Notes L → Type 0) → Type 0
Within L entry (Ret a) es Then = ⊥
Within L entry (Do op m k) [] Then = ⊥
Within L entry (Do op m k) (e ∷ es) Then =
    (a : L.Answer op) × (e ≡ Runs (op, a)) × (Within L entry (k a) es Then ⊎ Now L entry (k a) es Then)

-- The notes, the oldest first, of a run of the program above that ends with r. For each of its operations, one after
-- the other, they have a whole run of the operation's program below. Within that run they have the operation with its
-- answer, once. By that answer the program above goes on; the one that the program below ends with isn't compared.
-- What it ends with in hand is what the next operation's program has in hand: c, for the first one.
abbrev pub IsWhole : (U : Machine) (K : Core U) (R : LowerLayer U.World) → Handlers U R → {A : Type 0} → R.Carry → P U A
    → Notes (joined (operations U K) R) → A → Type 0
IsWhole U K R handler c (Ret a) [] r = a ≡ r
IsWhole U K R handler c (Ret a) (e ∷ es) r = ⊥
IsWhole U K R handler c (Do op m k) es r =
    Within (joined (operations U K) R) (λ b. (op, b)) (handler c op m) es (λ b x rest. IsWhole U K R handler x.carry (k b) rest r)

-- The same calls, each explained by all that is noted of it.
abbrev pub with_notes : (L : Theory) → (L.Call → Notes L.M → L.Reply → Type 0) → Theory
with_notes L Written = record L { M = noted L.M; Written = Written; WrittenSoFar = BeginsWhole Written }

-- the lowered calls, each explained by the operations below that it ran, and those above within them
abbrev pub noted_calls : (T : Theory) (K : Core T.M) (R : LowerLayer T.M.World) → Handlers T.M R → Starts T R → Theory
noted_calls T K R handler begin =
    with_notes (lowered_calls (operations_of T K) R handler begin) (λ call es r. IsWhole T.M K R handler R.none (T.program call) es r)

-- an entry, where it is of a step that was placed
abbrev pub entry_of : (L : Theory) → ℕ → ℕ → ℕ → Note (OpWithAnswer L.M) L.M.Step → List (PlacedStep L) → List (PlacedStep L)
entry_of L number hart call (Runs e) es = es
entry_of L number hart call (Places x) es = record { number = number; hart = hart; call = call; step = x } ∷ es

-- the entries of the steps that were placed
abbrev pub entries_of : (L : Theory) (Written : L.Call → Notes L.M → L.Reply → Type 0) → List (PlacedStep (with_notes L Written))
    → List (PlacedStep L)
entries_of L Written [] = []
entries_of L Written (e ∷ es) = entry_of L e.number e.hart e.call e.step (entries_of L Written es)

-- A list of events has the same result with the notes and without. The notes leave each entry at its event, in its
-- call.
pub record SameRuns (L : Theory) (Written : L.Call → Notes L.M → L.Reply → Type 0) (w : L.M.World) : Type 0 where
  pub honest : (events : List (Event L.Call L.M.Outside)) → AllHonest L events (fresh L w)
      → AllHonest (with_notes L Written) events (fresh (with_notes L Written) w)
  pub outcomes_are : (events : List (Event L.Call L.M.Outside))
      → outcomes (with_notes L Written) events (fresh (with_notes L Written) w) ≡ outcomes L events (fresh L w)
  pub entries_are : (events : List (Event L.Call L.M.Outside))
      → entries_of L Written (history (with_notes L Written) (run (with_notes L Written) events (fresh (with_notes L Written) w)))
      ≡ history L (run L events (fresh L w))
