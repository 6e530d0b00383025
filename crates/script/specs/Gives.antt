-- What a reader answers: what the words say, unless memory was refused.
use Rattle.std.specs.Prelude.{◌≡◌, ℕ, List, map, Option, Some, None, Result, Ok, Err, Vec, option_map}
use Rattle.script.specs.Vocabulary.{Global, Bor}
use Rattle.script.specs.declared.fault.LineFault.{LineFault}
use Rattle.script.specs.declared.fault.LineFault.TheVariants as faults
use Rattle.script.specs.declared.command.BadLine.{BadLine}
use Rattle.script.specs.declared.command.Front.{Front}
use Rattle.script.specs.declared.command.ScriptLine.{ScriptLine}
use Rattle.script.specs.declared.command.ScriptFault.{ScriptFault}
use Rattle.script.specs.declared.command.ScriptFault.TheVariants as scripts
use Rattle.script.specs.Said.{NumberedLine, numbered}
use Rattle.script.specs.Reading.{bad_in, front_in}

abbrev pub Fails : {Y : Type 0} → LineFault → Option Y → Type 0
Fails faults.Memory said = Unit {0}
Fails (faults.Bad reason) said = said ≡ None

abbrev pub Gives : {X Y : Type 0} → (X → Y) → Result X LineFault → Option Y → Type 0
Gives view (Ok x) said = said ≡ Some (view x)
Gives view (Err e) said = Fails e said

abbrev pub words_now : List (Bor (List ℕ)) → List (List ℕ)
words_now words = map (λ w. w.now) words

-- the number of a bad line
abbrev pub number_told : BadLine → ℕ
number_told bad = bad.number

-- the commands of a script up to its first line that says nothing, and which that is
pub record GivesFront (front : Front) (text : List ℕ) : Type 0 where
  pub lines : map numbered front.lines.items ≡ front_in text
  pub bad : option_map number_told front.bad ≡ bad_in text

-- what reading a script answers: its commands, each with its line's number, or its first line that says nothing, unless memory was refused
abbrev pub GivesScript : Result (Vec ScriptLine Global) ScriptFault → Result (List NumberedLine) ℕ → Type 0
GivesScript (Ok lines) said = said ≡ Ok (map numbered lines.items)
GivesScript (Err (scripts.Line n reason)) said = said ≡ Err n
GivesScript (Err scripts.Memory) said = Unit {0}
