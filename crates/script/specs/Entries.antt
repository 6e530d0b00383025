-- The line of an entry of a history, for people.
use Rattle.std.specs.Prelude.{ℕ, Bool, true, false, not, ◌&&◌, ◌==◌, nat_lt, if◌then◌else◌, List, [], ◌∷◌, ◌++◌, length, Option, Some, None, codes, decimal}
use Rattle.script.specs.Vocabulary.{list_all, Action, OpenStep as Open, Truncate, ReadStep as Read, WritePart, Find, Bump, Enter, Unbump, UnlinkStep as Unlink, MkdirStep as Mkdir, ChdirStep as Chdir, DupStep as Dup, FstatStep as Fstat, CloseStep as Close, InheritStep as Inherit, StepAnswer, Opened, Bytes, Status as Stat, NewFd as Fd, NoRoom as Full, Placed, cause_number, cause_name, full_number, full_name}
use Rattle.script.specs.Text.{bytes_text, hex, numbered_text, stat_text}
use Rattle.plain_tree.specs.declared.step.StepAnswer.TheVariants.{Done, Failed}

-- '!' to '~'
abbrev pub is_printed : ℕ → Bool
is_printed b = nat_lt 32 b && nat_lt b 127

abbrev pub all_printed : List ℕ → Bool
all_printed bytes = list_all is_printed bytes

-- as it is if each of its bytes is printed, else in digits; of no bytes as in a script
abbrev pub path_word : List ℕ → List ℕ
path_word [] = codes "\"\""
path_word (b ∷ bs) = if all_printed (b ∷ bs) then b ∷ bs else codes "hex:" ++ hex (b ∷ bs)

abbrev pub action_text : Action → List ℕ
action_text (Open path flags) = codes "open " ++ path_word path ++ codes " " ++ decimal flags
action_text (Truncate fd) = codes "truncate " ++ decimal fd
action_text (Read fd count) = codes "read " ++ decimal fd ++ codes " " ++ decimal count
action_text (WritePart fd bytes) = codes "write " ++ decimal fd ++ codes " " ++ decimal (length bytes)
action_text (Find old) = codes "find " ++ path_word old
action_text Bump = codes "bump"
action_text (Enter new) = codes "enter " ++ path_word new
action_text Unbump = codes "unbump"
action_text (Unlink path) = codes "unlink " ++ path_word path
action_text (Mkdir path) = codes "mkdir " ++ path_word path
action_text (Chdir path) = codes "chdir " ++ path_word path
action_text (Dup fd) = codes "dup " ++ decimal fd
action_text (Fstat fd) = codes "fstat " ++ decimal fd
action_text (Close fd) = codes "close " ++ decimal fd
action_text (Inherit child) = codes "inherit " ++ decimal child

abbrev pub answer_text : StepAnswer → List ℕ
answer_text (Opened fd id is_file) = codes "fd " ++ decimal fd
answer_text (Bytes bytes) = decimal (length bytes) ++ bytes_text bytes
answer_text (Stat s) = stat_text s
answer_text (Fd fd) = codes "fd " ++ decimal fd
answer_text Done = codes "ok"
answer_text (Failed cause) = numbered_text (codes "failed") (cause_number cause) (cause_name cause)
answer_text (Full full) = numbered_text (codes "full") (full_number full) (full_name full)

-- the event, the hart, and what its step did
abbrev pub step_text : Placed → List ℕ
step_text e = codes "event " ++ decimal e.event ++ codes ": " ++ decimal e.step.hart ++ codes " " ++ action_text e.step.action

-- a path that may make what it names, and has led to it
abbrev pub may_make : Action → StepAnswer → Bool
may_make (Open path flags) (Opened fd id is_file) = true
may_make (Mkdir path) Done = true
may_make a b = false

-- the number of the node that was made; if none was made a step says 0
abbrev pub made_number : Placed → Option ℕ
made_number e = if may_make e.step.action e.answer && not (e.step.new == 0) then Some e.step.new else None

abbrev pub made_text : Option ℕ → List ℕ
made_text None = []
made_text (Some number) = codes ", inode " ++ decimal number

-- what the step answered, what it made, and the line's end
abbrev pub told_text : Placed → List ℕ
told_text e = codes ": " ++ answer_text e.answer ++ made_text (made_number e) ++ codes "\n"

abbrev pub entry_line : Placed → List ℕ
entry_line e = step_text e ++ told_text e
