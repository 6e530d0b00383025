-- The calls that each hart is still to start by itself, in their order.
use Rattle.std.specs.Prelude.{◌≡◌, ℕ, List, [], ◌∷◌, ◌++◌, get_or, set, replicate, nat_lt, if◌then◌else◌, Option, Some, None, Result, Ok, Err}
use Rattle.script.specs.Said as said
use Rattle.script.specs.Said.{Line, NumberedLine, Start, Run, Step, Upto, End, All}

abbrev pub QueuedCalls : Type 0
QueuedCalls = List (List said.Call)

abbrev pub left_to : ℕ → QueuedCalls → List said.Call
left_to hart left = get_or left hart []

-- for none of the eight harts any
abbrev pub none_left : QueuedCalls
none_left = replicate 8 []

-- the first of a hart's is taken
abbrev pub TakesNext : ℕ → QueuedCalls → Option said.Call → QueuedCalls → Type 0
TakesNext hart left None after = (left_to hart left ≡ []) × (after ≡ left)
TakesNext hart left (Some call) after = (rest : List said.Call) × (left_to hart left ≡ call ∷ rest) × (after ≡ set left hart rest)

abbrev pub with_last : ℕ → said.Call → QueuedCalls → QueuedCalls
with_last hart call left = set left hart (left_to hart left ++ call ∷ [])

-- a line that starts a call of one of the eight harts
abbrev pub started_in : Line → Option (ℕ × said.Call)
started_in (Start hart call) = if nat_lt hart 8 then Some (hart, call) else None
started_in (Run hart call) = None
started_in (Step hart steps) = None
started_in (Upto hart kind steps) = None
started_in (End hart) = None
started_in All = None

abbrev pub with_start : QueuedCalls → Option (ℕ × said.Call) → Option QueuedCalls
with_start left None = None
with_start left (Some start) = Some (with_last start.0 start.1 left)

abbrev pub or_line : ℕ → (QueuedCalls → Result QueuedCalls ℕ) → Option QueuedCalls → Result QueuedCalls ℕ
or_line n rest None = Err n
or_line n rest (Some left) = rest left

-- each line's call comes after those of its hart; or the number of the first line that is no start of a hart's call
unfoldable pub queued : QueuedCalls → List NumberedLine → Result QueuedCalls ℕ
queued left [] = Ok left
queued left (line ∷ lines) = or_line line.number (λ more. queued more lines) (with_start left (started_in line.says))
