-- What explains a run: one list of steps, the oldest first.
use Rattle.std.specs.Prelude.{◌≡◌, ◌⊎◌, ℕ, ◌<◌, ◌≤◌, Bool, true, false, Option, Some, None, nat_eq, if◌then◌else◌, List, [], ◌∷◌, suc, ◌++◌, length}
use Rattle.atomic_programs.specs.Basics.{Do, asks, OfNext, P, oldest_first, Theory, IsBeginning, Run, PlacedStep, FinishedCall, State, Event, Start, Step, Outcome, Started, Refused, WasIdle, DidWait, DidRun, DidEnd, DidStop, WasStopped, makes, next, unchanged, IsHonest}

abbrev pub In : {A : Type 0} → A → List A → Type 0
In x [] = ⊥
In x (y ∷ ys) = (x ≡ y) ⊎ In x ys

-- the steps of the call that started at this number
abbrev pub steps_of : (L : Theory) → ℕ → List (PlacedStep L) → List L.M.Step
steps_of L c [] = []
steps_of L c (e ∷ es) = if nat_eq e.call c then e.step ∷ steps_of L c es else steps_of L c es

-- from base the sequential object goes through the entries to t
abbrev pub Chain : (L : Theory) → L.M.Tree → List (PlacedStep L) → L.M.Tree → Type 0
Chain L base [] t = t ≡ base
Chain L base (e ∷ es) t = (mid : L.M.Tree) × L.M.Takes base e.hart e.step mid × Chain L mid es t

-- the numbers begin at n or above, and never fall
abbrev pub IsRising : (L : Theory) → ℕ → List (PlacedStep L) → Type 0
IsRising L n [] = Unit {0}
IsRising L n (e ∷ es) = (n ≤ e.number) × IsRising L e.number es

-- all that a run has placed, the oldest first
abbrev pub history : (L : Theory) → State L → List (PlacedStep L)
history L s = oldest_first s.list

-- an entry is of a call of its hart that was started: it has finished, or is under way
abbrev pub IsOfCall : (L : Theory) → State L → PlacedStep L → Type 0
IsOfCall L s e =
    ((f : FinishedCall L) × In f s.finished × (f.hart ≡ e.hart) × (f.start ≡ e.call))
    ⊎ ((r : Run L) × (s.running e.hart ≡ Some r) × (r.start ≡ e.call))

-- a hart that has a call whose next operation waits, and may
pub record IsBlocked (L : Theory) (h : ℕ) (s : State L) : Type 0 where
  pub call : Run L
  pub op : L.M.Op
  pub mark : L.M.Answer op → Option L.M.Mark
  pub rest : L.M.Answer op → P L.M L.Reply
  pub is : s.running h ≡ Some call
  pub asks : call.prog ≡ Do op mark rest
  pub may : L.M.MayWait h op s.world

-- the invariant, or the part of it that holds once the world has stopped
abbrev pub Holds : (L : Theory) → Bool → L.M.World → Type 0
Holds L true w = L.M.Halted w
Holds L false w = L.M.Inv w

pub record IsExplained (L : Theory) (base : L.M.Tree) (s : State L) : Type 0 where
  -- the entries rise in number and chain
  pub rising : IsRising L 0 (history L s)
  pub chained : L.M.Clean s.world → Chain L base (history L s) (L.M.tree s.world)
  -- a finished call's steps are its sequence and make its reply
  pub whole : L.M.Clean s.world → (f : FinishedCall L) → In f s.finished → L.Written f.call (steps_of L f.start (history L s)) f.reply
  -- an unfinished call's steps are a beginning of its sequence
  pub begun : L.M.Clean s.world → (h : ℕ) (r : Run L) → s.running h ≡ Some r → IsBeginning L r.call (steps_of L r.start (history L s))
  -- no entry belongs to anything else
  pub owned : (e : PlacedStep L) → In e (history L s) → IsOfCall L s e
  -- each is placed between its call's start and its return, or the last event if the call is under way
  pub within : (f : FinishedCall L) → In f s.finished → (e : PlacedStep L) → In e (history L s) → e.call ≡ f.start
      → (f.start < e.number) × (e.number ≤ f.number)
  pub after : (h : ℕ) (r : Run L) → s.running h ≡ Some r → (e : PlacedStep L) → In e (history L s) → e.call ≡ r.start
      → (r.start < e.number) × (e.number < s.now)
  -- two calls never have one start
  pub apart : (h k : ℕ) (r q : Run L) → s.running h ≡ Some r → s.running k ≡ Some q → r.start ≡ q.start → h ≡ k
  -- no call takes more steps than its bound
  pub bounded : (f : FinishedCall L) → In f s.finished → f.count ≤ L.limit f.call
  pub bounded_yet : (h : ℕ) (r : Run L) → s.running h ≡ Some r → r.count ≤ L.limit r.call
  -- a step waits only when it may
  pub waits : (h : ℕ) (x : L.M.Outside) → IsHonest L (Step h x) s → (makes L (Step h x) s).came ≡ DidWait → IsBlocked L h s
  -- each hart's next operation may be made
  pub may : (h : ℕ) (r : Run L) → s.stopped ≡ false → s.running h ≡ Some r → OfNext (L.M.May h) (asks r.prog) s.world
  -- a hart without a call owns nothing
  pub idle : (h : ℕ) → s.running h ≡ None → L.M.Idle h s.world
  pub holds : Holds L s.stopped s.world

-- the list of u is that of s with more at its end, all of the event that s is at
pub record Appends (L : Theory) (s u : State L) : Type 0 where
  pub more : List (PlacedStep L)
  pub is : history L u ≡ history L s ++ more
  pub now : (e : PlacedStep L) → In e more → e.number ≡ s.now

-- the entries of this hart
abbrev pub of_hart : (L : Theory) → ℕ → List (PlacedStep L) → List (PlacedStep L)
of_hart L h [] = []
of_hart L h (e ∷ es) = if nat_eq e.hart h then e ∷ of_hart L h es else of_hart L h es

-- An event of hart h that led from s to u. What it placed leads the sequential object from its old state to its new
-- one, and at most one step of it is the hart's own.
pub record Leads (L : Theory) (h : ℕ) (s u : State L) : Type 0 where
  pub more : List (PlacedStep L)
  pub is : history L u ≡ history L s ++ more
  pub clean : L.M.Clean u.world → L.M.Clean s.world
  pub chained : L.M.Clean u.world → Chain L (L.M.tree s.world) more (L.M.tree u.world)
  pub own : length (of_hart L h more) ≤ 1

-- these outcomes leave all as it was
abbrev pub is_quiet : {What Reply Refusal : Type 0} → Outcome What Reply Refusal → Bool
is_quiet (Refused why) = true
is_quiet WasIdle = true
is_quiet DidWait = true
is_quiet WasStopped = true
is_quiet Started = false
is_quiet (DidRun did) = false
is_quiet (DidEnd reply) = false
is_quiet DidStop = false

-- what holds of each event in any state
pub record Steady (L : Theory) : Type 0 where
  -- an event that was refused, waited, found no call or a stopped world changes nothing but the number of events
  pub quiet : (e : Event L.Call L.M.Outside) (s : State L) → is_quiet (makes L e s).came ≡ true → next L e s ≡ unchanged L s
  -- events are numbered one after the other, and the list grows at its end alone
  pub counts : (e : Event L.Call L.M.Outside) (s : State L) → (next L e s).now ≡ suc s.now
  pub appends : (e : Event L.Call L.M.Outside) (s : State L) → Appends L s (next L e s)
  -- once the world has stopped, each step of a hart with a call says so
  pub answers_stopped : (h : ℕ) (x : L.M.Outside) (r : Run L) (s : State L) → s.stopped ≡ true → s.running h ≡ Some r
      → (makes L (Step h x) s).came ≡ WasStopped
  pub stays_stopped : (e : Event L.Call L.M.Outside) (s : State L) → s.stopped ≡ true → (next L e s).stopped ≡ true
  -- and starts are taken as before
  pub starts_as_before : (h : ℕ) (call : L.Call) (s : State L) (b : Bool)
      → makes L (Start h call) (record s { stopped = b })
      ≡ record { came = (makes L (Start h call) s).came; after = record (next L (Start h call) s) { stopped = b } }
