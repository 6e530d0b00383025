-- How the words of a line are read: what the line says, if it says anything.
use Rattle.std.specs.Prelude.{ℕ, ◌+◌, Bool, ◌||◌, List, [], ◌∷◌, ◌==◌, nat_eq, if◌then◌else◌, Option, Some, None, codes, Result, Ok, Err}
use Rattle.script.specs.Vocabulary.{option_and_then, bytes_eq, Kind, slice_split, ends_with}
use Rattle.fs_machine.specs.declared.kind.Kind.TheVariants as kinds
use Rattle.script.specs.Words.{number_in, hart_in, bytes_in, begins_with}
use Rattle.script.specs.Said.{Call, Open, Read, Write, Fill, Link, Unlink, Mkdir, Chdir, Dup, Fstat, Close, Inherit, Line, NumberedLine, Start, Run, Step, Upto, End, All}

abbrev pub words_of : List ℕ → List (List ℕ)
words_of line = slice_split (λ b. b == 32) line

abbrev pub lines_of : List ℕ → List (List ℕ)
lines_of text = slice_split (λ b. b == 10) text

abbrev pub with_one : {A C : Type 0} → (A → C) → Option A → Option C
with_one f a = option_and_then (λ x. Some (f x)) a

abbrev pub with_two : {A B C : Type 0} → (A → B → C) → Option A → Option B → Option C
with_two f a b = option_and_then (λ x. option_and_then (λ y. Some (f x y)) b) a

-- ---- calls

unfoldable pub one_operand : List ℕ → List ℕ → Option Call
one_operand verb a =
    if bytes_eq verb (codes "unlink") then with_one Unlink (bytes_in a)
    else if bytes_eq verb (codes "mkdir") then with_one Mkdir (bytes_in a)
    else if bytes_eq verb (codes "chdir") then with_one Chdir (bytes_in a)
    else if bytes_eq verb (codes "dup") then with_one Dup (number_in a)
    else if bytes_eq verb (codes "fstat") then with_one Fstat (number_in a)
    else if bytes_eq verb (codes "close") then with_one Close (number_in a)
    else if bytes_eq verb (codes "inherit") then with_one Inherit (hart_in a)
    else None

unfoldable pub two_operands : List ℕ → List ℕ → List ℕ → Option Call
two_operands verb a b =
    if bytes_eq verb (codes "open") then with_two Open (bytes_in a) (number_in b)
    else if bytes_eq verb (codes "read") then with_two Read (number_in a) (number_in b)
    else if bytes_eq verb (codes "write") then with_two Write (number_in a) (bytes_in b)
    else if bytes_eq verb (codes "fill") then with_two Fill (number_in a) (number_in b)
    else if bytes_eq verb (codes "link") then with_two Link (bytes_in a) (bytes_in b)
    else None

unfoldable pub call_in : List (List ℕ) → Option Call
call_in (verb ∷ a ∷ []) = one_operand verb a
call_in (verb ∷ a ∷ b ∷ []) = two_operands verb a b
call_in words = None

-- ---- kinds

unfoldable pub kind_in : List ℕ → Option Kind
kind_in word =
    if bytes_eq word (codes "lock") then Some kinds.Lock
    else if bytes_eq word (codes "unlock") then Some kinds.Unlock
    else if bytes_eq word (codes "get") then Some kinds.Get
    else if bytes_eq word (codes "read") then Some kinds.Read
    else if bytes_eq word (codes "put") then Some kinds.Put
    else if bytes_eq word (codes "join") then Some kinds.Join
    else if bytes_eq word (codes "leave") then Some kinds.Leave
    else if bytes_eq word (codes "commit") then Some kinds.Commit
    else if bytes_eq word (codes "up") then Some kinds.Up
    else if bytes_eq word (codes "down") then Some kinds.Down
    else if bytes_eq word (codes "slot") then Some kinds.Slot
    else if bytes_eq word (codes "reply") then Some kinds.Reply
    else None

-- ---- lines

abbrev pub hart_with_call : List (List ℕ) → Option (ℕ × Call)
hart_with_call [] = None
hart_with_call (hart ∷ rest) = with_two (λ h c. (h, c)) (hart_in hart) (call_in rest)

abbrev pub do_in : List (List ℕ) → Option Line
do_in words = with_one (λ x. Run x.0 x.1) (hart_with_call words)

abbrev pub start_in : List (List ℕ) → Option Line
start_in words = with_one (λ x. Start x.0 x.1) (hart_with_call words)

abbrev pub step_in : List (List ℕ) → Option Line
step_in (hart ∷ steps ∷ []) = with_two Step (hart_in hart) (number_in steps)
step_in words = None

abbrev pub upto_in : List (List ℕ) → Option Line
upto_in (hart ∷ kind ∷ steps ∷ []) = option_and_then (λ h. with_two (Upto h) (kind_in kind) (number_in steps)) (hart_in hart)
upto_in words = None

abbrev pub end_in : List (List ℕ) → Option Line
end_in (hart ∷ []) = with_one End (hart_in hart)
end_in words = None

abbrev pub all_in : List (List ℕ) → Option Line
all_in [] = Some All
all_in words = None

unfoldable pub line_in : List (List ℕ) → Option Line
line_in [] = None
line_in (verb ∷ rest) =
    if bytes_eq verb (codes "do") then do_in rest
    else if bytes_eq verb (codes "step") then step_in rest
    else if bytes_eq verb (codes "upto") then upto_in rest
    else if bytes_eq verb (codes "end") then end_in rest
    else if bytes_eq verb (codes "all") then all_in rest
    else start_in (verb ∷ rest)

abbrev pub ends_in_return : List ℕ → Bool
ends_in_return line = ends_with nat_eq line (codes "\r")

-- what a whole line says: that which its words say, unless it ends in a carriage return
abbrev pub said_in : List ℕ → Option Line
said_in line = if ends_in_return line then None else line_in (words_of line)

-- ---- a script: its lines, each with what it says; empty lines and comments are passed over

abbrev pub is_passed_over : List ℕ → Bool
is_passed_over line = bytes_eq line [] || begins_with (codes "#") line

-- what the lines say up to the first that says nothing, and the number of that line
pub record ReadLines : Type 0 where
  pub front : List NumberedLine
  pub bad : Option ℕ

abbrev pub first_said : ℕ → Option Line → ReadLines → ReadLines
first_said n None rest = record { front = []; bad = Some n }
first_said n (Some said) rest = record { front = record { number = n; says = said } ∷ rest.front; bad = rest.bad }

-- the first line is number n
unfoldable pub lines_from : ℕ → List (List ℕ) → ReadLines
lines_from n [] = record { front = []; bad = None }
lines_from n (line ∷ lines) =
    if is_passed_over line then lines_from (n + 1) lines else first_said n (said_in line) (lines_from (n + 1) lines)

abbrev pub front_in : List ℕ → List NumberedLine
front_in text = (lines_from 1 (lines_of text)).front

abbrev pub bad_in : List ℕ → Option ℕ
bad_in text = (lines_from 1 (lines_of text)).bad

-- what all lines say, or the number of the first that says nothing
abbrev pub unless_bad : List NumberedLine → Option ℕ → Result (List NumberedLine) ℕ
unless_bad lines None = Ok lines
unless_bad lines (Some n) = Err n

abbrev pub script_in : List ℕ → Result (List NumberedLine) ℕ
script_in text = unless_bad (front_in text) (bad_in text)
