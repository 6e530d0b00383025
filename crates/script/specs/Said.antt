-- What a line of a script says, however it is in memory.
use Rattle.std.specs.Prelude.{ℕ, List, codes}
use Rattle.script.specs.Vocabulary.{Kind}
use Rattle.script.specs.declared.call.CallLine.{CallLine}
use Rattle.script.specs.declared.call.CallLine.TheVariants as calls
use Rattle.script.specs.declared.command.Command.{Command}
use Rattle.script.specs.declared.command.Command.TheVariants as commands
use Rattle.script.specs.declared.command.ScriptLine.{ScriptLine}

pub data Call : Type 0 where
  Open : List ℕ → ℕ → Call
  Read : ℕ → ℕ → Call
  Write : ℕ → List ℕ → Call
  Fill : ℕ → ℕ → Call
  Link : List ℕ → List ℕ → Call
  Unlink : List ℕ → Call
  Mkdir : List ℕ → Call
  Chdir : List ℕ → Call
  Dup : ℕ → Call
  Fstat : ℕ → Call
  Close : ℕ → Call
  Inherit : ℕ → Call

pub data Line : Type 0 where
  Start : ℕ → Call → Line
  Run : ℕ → Call → Line
  Step : ℕ → ℕ → Line
  Upto : ℕ → Kind → ℕ → Line
  End : ℕ → Line
  All : Line

-- a line that says something, and which line of the script it is
pub record NumberedLine : Type 0 where
  pub number : ℕ
  pub says : Line

abbrev pub call_said : CallLine → Call
call_said (calls.Open path flags) = Open path.items flags
call_said (calls.Read fd count) = Read fd count
call_said (calls.Write fd bytes) = Write fd bytes.items
call_said (calls.Fill fd count) = Fill fd count
call_said (calls.Link old new) = Link old.items new.items
call_said (calls.Unlink path) = Unlink path.items
call_said (calls.Mkdir path) = Mkdir path.items
call_said (calls.Chdir path) = Chdir path.items
call_said (calls.Dup fd) = Dup fd
call_said (calls.Fstat fd) = Fstat fd
call_said (calls.Close fd) = Close fd
call_said (calls.Inherit child) = Inherit child

abbrev pub line_said : Command → Line
line_said (commands.Start hart call) = Start hart (call_said call)
line_said (commands.Do hart call) = Run hart (call_said call)
line_said (commands.Step hart steps) = Step hart steps
line_said (commands.Upto hart kind steps) = Upto hart kind steps
line_said (commands.End hart) = End hart
line_said commands.All = All

abbrev pub numbered : ScriptLine → NumberedLine
numbered line = record { number = line.number; says = line_said line.command }

-- the word by which answers name a call
abbrev pub answer_word : Call → List ℕ
answer_word (Open path flags) = codes "open"
answer_word (Read fd count) = codes "read"
answer_word (Write fd bytes) = codes "write"
answer_word (Fill fd count) = codes "write"
answer_word (Link old new) = codes "link"
answer_word (Unlink path) = codes "unlink"
answer_word (Mkdir path) = codes "mkdir"
answer_word (Chdir path) = codes "chdir"
answer_word (Dup fd) = codes "dup"
answer_word (Fstat fd) = codes "fstat"
answer_word (Close fd) = codes "close"
answer_word (Inherit child) = codes "inherit"
