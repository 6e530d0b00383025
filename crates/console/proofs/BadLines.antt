-- The first bad line of a script.
use Rattle.console.proofs.Vocabulary.{◌≡◌, ℕ, List, Option, Some, None, Result, Ok, Err, sym, ConsoleFault}
use Rattle.std.specs.Prelude.{map, option_map}
use Rattle.console.specs.Vocabulary.{Schedule, numbered}
use Rattle.console.specs.Lines.{CourseOf, FailsTo, course_of, or_bad, script_course}
use Rattle.console.specs.declared.fault.ConsoleFault.TheVariants as faults
use Rattle.script.specs.Gives.{GivesFront, number_told}
use Rattle.script.specs.declared.command.Front.{Front}

-- what is run of a text that was read up to its first line that says nothing
pub course_read : (schedule : Schedule) (front : Front) (text : List ℕ) → GivesFront front text → script_course schedule text ≡ or_bad (option_map number_told front.bad) (course_of schedule (map numbered front.lines.items))
course_read schedule front text gives i = or_bad (sym gives.bad i) (course_of schedule (sym gives.lines i))

-- what is wrong before it is reported, and not that
pub fails_before : (fault : ConsoleFault) (bad : Option ℕ) (course : Result CourseOf ℕ) → FailsTo fault course → FailsTo fault (or_bad bad course)
fails_before fault None course fails = fails
fails_before fault (Some n) (Err m) fails = fails
fails_before faults.Memory (Some n) (Ok c) fails = tt
fails_before (faults.Line m why) (Some n) (Ok c) fails = absurd fails
fails_before (faults.Image f) (Some n) (Ok c) fails = absurd fails
fails_before (faults.Read e) (Some n) (Ok c) fails = absurd fails
fails_before (faults.Write e) (Some n) (Ok c) fails = absurd fails
fails_before (faults.Stopped s) (Some n) (Ok c) fails = absurd fails

pub memory_fails : (course : Result CourseOf ℕ) → FailsTo faults.Memory course
memory_fails (Ok c) = tt
memory_fails (Err n) = tt
