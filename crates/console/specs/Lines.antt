-- The lines of a script as what is run: in their order, or queued for each hart.
use Rattle.std.specs.Prelude.{◌≡◌, ℕ, min, List, [], ◌∷◌, map, replicate, Option, Some, None, Result, Ok, Err}
use Rattle.console.specs.Vocabulary.{Call, bad_in, front_in, Schedule, Listed, Round}
use Rattle.plain_tree.specs.declared.call.Call.TheVariants as calls
use Rattle.script.specs.Said as said
use Rattle.script.specs.Said.{Line, NumberedLine, Open, Read, Write, Fill, Link, Unlink, Mkdir, Chdir, Dup, Fstat, Close, Inherit, All, line_said}
use Rattle.console.specs.declared.fault.ConsoleFault.{ConsoleFault}
use Rattle.console.specs.declared.fault.ConsoleFault.TheVariants as faults
use Rattle.console.specs.declared.lines.Course.{Course}
use Rattle.console.specs.Queues.{QueuedCalls, none_left, queued}

-- ---- the call that a line says; a read is handed zeros to fill, a fill writes the letter x

-- the bytes that are asked for, or one more than a call may have
abbrev pub part_of : ℕ → ℕ → List ℕ
part_of count byte = replicate (min count 524289) byte

abbrev pub called : said.Call → Call
called (Open path flags) = calls.Open path flags
called (Read fd count) = calls.Read fd (part_of count 0)
called (Write fd bytes) = calls.Write fd bytes
called (Fill fd count) = calls.Write fd (part_of count 120)
called (Link old new) = calls.Link old new
called (Unlink path) = calls.Unlink path
called (Mkdir path) = calls.Mkdir path
called (Chdir path) = calls.Chdir path
called (Dup fd) = calls.Dup fd
called (Fstat fd) = calls.Fstat fd
called (Close fd) = calls.Close fd
called (Inherit child) = calls.Inherit child

-- ---- what is run

-- the calls that are queued at first, and the lines that are run then
pub record CourseOf : Type 0 where
  pub left : QueuedCalls
  pub lines : List Line

-- in the schedule round all calls are queued, and then the harts take turns
abbrev pub all_turns : Result QueuedCalls ℕ → Result CourseOf ℕ
all_turns (Ok left) = Ok (record { left = left; lines = All ∷ [] })
all_turns (Err n) = Err n

abbrev pub course_of : Schedule → List NumberedLine → Result CourseOf ℕ
course_of Listed lines = Ok (record { left = none_left; lines = map (λ l. l.says) lines })
course_of Round lines = all_turns (queued none_left lines)

-- what the lines before it run, unless one of them is bad too
abbrev pub or_bad : Option ℕ → Result CourseOf ℕ → Result CourseOf ℕ
or_bad None course = course
or_bad (Some n) (Ok course) = Err n
or_bad (Some n) (Err m) = Err m

-- what a script runs, or the number of its first line that says nothing, or that the schedule doesn't allow
abbrev pub script_course : Schedule → List ℕ → Result CourseOf ℕ
script_course schedule text = or_bad (bad_in text) (course_of schedule (front_in text))

-- ---- what is answered of lines

-- a reported line is the bad one
abbrev pub TellsLine : ℕ → ConsoleFault → Type 0
TellsLine n (faults.Line m why) = m ≡ n
TellsLine n faults.Memory = Unit {0}
TellsLine n (faults.Image f) = ⊥
TellsLine n (faults.Read e) = ⊥
TellsLine n (faults.Write e) = ⊥
TellsLine n (faults.Stopped s) = ⊥

abbrev pub IsMemory : ConsoleFault → Type 0
IsMemory (faults.Line m why) = ⊥
IsMemory faults.Memory = Unit {0}
IsMemory (faults.Image f) = ⊥
IsMemory (faults.Read e) = ⊥
IsMemory (faults.Write e) = ⊥
IsMemory (faults.Stopped s) = ⊥

-- a fault when something was to be had, or a line is bad, unless memory was refused
abbrev pub FailsTo : {A : Type 0} → ConsoleFault → Result A ℕ → Type 0
FailsTo fault (Ok a) = IsMemory fault
FailsTo fault (Err n) = TellsLine n fault

abbrev pub GivesQueues : Result QueuedCalls ConsoleFault → Result QueuedCalls ℕ → Type 0
GivesQueues (Ok left) wanted = wanted ≡ Ok left
GivesQueues (Err fault) wanted = FailsTo fault wanted

abbrev pub course : Course → CourseOf
course c = record { left = c.queues; lines = map (λ l. line_said l.command) c.lines.items }

abbrev pub GivesCourse : Result Course ConsoleFault → Result CourseOf ℕ → Type 0
GivesCourse (Ok c) wanted = wanted ≡ Ok (course c)
GivesCourse (Err fault) wanted = FailsTo fault wanted
