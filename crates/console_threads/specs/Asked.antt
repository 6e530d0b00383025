-- The calls that a script asks of each hart, and why there are none.
use Rattle.std.specs.Prelude.{◌≡◌, ℕ, List, Option, IfSome, Ok, Err, map}
use Rattle.console_threads.specs.Vocabulary.{Call, Round, ConsoleFault, CourseOf, called, script_course}
use Rattle.console.specs.declared.fault.ConsoleFault.TheVariants as faults

-- this text starts these calls on each hart, in the order of its lines
pub record Asks (text : List ℕ) (calls : List (List Call)) : Type 0 where
  pub course : CourseOf
  pub says : script_course Round text ≡ Ok course
  pub calls_are : calls ≡ map (λ queue. map called queue) course.left

-- the same of a script of which may be known what it says
abbrev pub IsAsked : Option (List ℕ) → List (List Call) → Type 0
IsAsked script calls = (text : List ℕ) × IfSome script (λ bytes. text ≡ bytes) × Asks text calls

-- a reported line is the bad one
abbrev pub IsUnasked : Option (List ℕ) → ConsoleFault → Type 0
IsUnasked script (faults.Line n why) = (text : List ℕ) × IfSome script (λ bytes. text ≡ bytes) × (script_course Round text ≡ Err n)
IsUnasked script (faults.Read e) = Unit {0}
IsUnasked script faults.Memory = Unit {0}
IsUnasked script (faults.Image f) = ⊥
IsUnasked script (faults.Write e) = ⊥
IsUnasked script (faults.Stopped stop) = ⊥
