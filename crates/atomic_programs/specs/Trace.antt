-- The outcomes of a list's events, and what a state says of them.
use Rattle.std.specs.Prelude.{◌≡◌, ℕ, Some, List, [], ◌∷◌}
use Rattle.atomic_programs.specs.Basics.{Theory, Run, FinishedCall, State, Event, Start, Step, EventOutcome, Started, DidEnd, makes, next}
use Rattle.atomic_programs.specs.Explained.{In}

-- an event with its number and its outcome
pub record EventReport (L : Theory) : Type 0 where
  pub number : ℕ
  pub event : Event L.Call L.M.Outside
  pub came : EventOutcome L

-- all of a list, the oldest first
abbrev pub happened : (L : Theory) → List (Event L.Call L.M.Outside) → State L → List (EventReport L)
happened L [] s = []
happened L (e ∷ es) s = record { number = s.now; event = e; came = (makes L e s).came } ∷ happened L es (next L e s)

-- The finished calls and those under way are just those that the events with their outcomes show.
pub record IsTraced (L : Theory) (Was : EventReport L → Type 0) (s : State L) : Type 0 where
  -- each reply given is that of a finished call
  pub reported : (x : EventReport L) → Was x → (h : ℕ) (y : L.M.Outside) (reply : L.Reply) → x.event ≡ Step h y → x.came ≡ DidEnd reply
      → (f : FinishedCall L) × In f s.finished × (f.hart ≡ h) × (f.number ≡ x.number) × (f.reply ≡ reply)
  -- each finished call was started and gave its reply
  pub started : (f : FinishedCall L) → In f s.finished → Was (record { number = f.start; event = Start f.hart f.call; came = Started })
  pub ended : (f : FinishedCall L) → In f s.finished
      → (y : L.M.Outside) × Was (record { number = f.number; event = Step f.hart y; came = DidEnd f.reply })
  -- each call under way was started
  pub under_way : (h : ℕ) (r : Run L) → s.running h ≡ Some r → Was (record { number = r.start; event = Start h r.call; came = Started })
