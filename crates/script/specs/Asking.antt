-- What the lines ask that are typed at a prompt: those of a script, and a few that only show something.
use Rattle.std.specs.Prelude.{◌≡◌, ◌⊎◌, ℕ, ◌==◌, Bool, ◌||◌, false, List, [], ◌∷◌, ◌++◌, if◌then◌else◌, Option, Some, None, codes, Result, Ok, Err}
use Rattle.script.specs.Vocabulary.{bytes_eq}
use Rattle.script.specs.declared.asked.Asked.{Asked as AskedOf}
use Rattle.script.specs.declared.asked.Asked.TheVariants as asks
use Rattle.script.specs.declared.command.ScriptFault.{ScriptFault}
use Rattle.script.specs.declared.command.ScriptFault.TheVariants as faults
use Rattle.script.specs.Said.{Line, line_said}
use Rattle.script.specs.Reading.{is_passed_over, said_in, with_one, words_of}

pub data Asked : Type 0 where
  Nothing : Asked
  Help : Asked
  State : Asked
  Quit : Asked
  Run : Line → Asked

abbrev pub asked_by : AskedOf → Asked
asked_by asks.Nothing = Nothing
asked_by asks.Help = Help
asked_by asks.State = State
asked_by asks.Quit = Quit
asked_by (asks.Run command) = Run (line_said command)

abbrev pub ends_input : List ℕ → Bool
ends_input line = bytes_eq line (codes "quit") || bytes_eq line (codes "exit")

-- one more word, after a space if there is one before it
abbrev pub with_word : List ℕ → List ℕ → List ℕ
with_word line [] = line
with_word [] (b ∷ bs) = b ∷ bs
with_word (a ∷ as') (b ∷ bs) = (a ∷ as') ++ 32 ∷ b ∷ bs

-- a line and these words, with one space between them
unfoldable pub single_spaced : List ℕ → List (List ℕ) → List ℕ
single_spaced line [] = line
single_spaced line (word ∷ words) = single_spaced (with_word line word) words

-- an empty line and a comment ask nothing
abbrev pub asked_as_typed : List ℕ → Option Asked
asked_as_typed line =
    if is_passed_over line then Some Nothing
    else if bytes_eq line (codes "help") then Some Help
    else if bytes_eq line (codes "state") then Some State
    else if ends_input line then Some Quit
    else with_one Run (said_in line)

abbrev pub or_asked : Option Asked → Option Asked → Option Asked
or_asked (Some asked) other = Some asked
or_asked None other = other

-- what the line says as it is; if that is nothing, what it says with one space between its words, and none at an end
abbrev pub asked_in : List ℕ → Option Asked
asked_in line = or_asked (asked_as_typed line) (asked_as_typed (single_spaced [] (words_of line)))

-- what reading the line of this number answers: what it asks, or that it asks nothing that there is, unless memory was refused
abbrev pub GivesAsked : ℕ → Result AskedOf ScriptFault → Option Asked → Type 0
GivesAsked number (Ok a) asked = asked ≡ Some (asked_by a)
GivesAsked number (Err (faults.Line n reason)) asked = (n ≡ number) × (asked ≡ None)
GivesAsked number (Err faults.Memory) asked = Unit {0}

-- A line of a script that isn't empty or a comment is run at a prompt as what it says. No other line is run, except
-- one that becomes such a line with one space between its words, and none at an end.
abbrev pub PromptsRunScripts : Type 0
PromptsRunScripts =
    (said : Line) (line : List ℕ) → is_passed_over line ≡ false
    → (said_in line ≡ Some said → asked_in line ≡ Some (Run said))
    × (asked_in line ≡ Some (Run said) → (said_in line ≡ Some said) ⊎ (said_in (single_spaced [] (words_of line)) ≡ Some said))

-- ---- the lines that are typed: each up to its byte 10, and the last one even without

abbrev pub with_byte : ℕ → List (List ℕ) → List (List ℕ)
with_byte b [] = (b ∷ []) ∷ []
with_byte b (line ∷ lines) = (b ∷ line) ∷ lines

unfoldable pub typed_lines : List ℕ → List (List ℕ)
typed_lines [] = []
typed_lines (b ∷ bs) = if b == 10 then [] ∷ typed_lines bs else with_byte b (typed_lines bs)
