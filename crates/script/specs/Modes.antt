-- How a console runs, by what a command line was found to have.
use Rattle.std.specs.Prelude.{◌≡◌, ℕ, ◌^◌, ◌<◌, Bool, true, false, if◌then◌else◌, Option, Some, None, codes}
use Rattle.script.specs.Vocabulary.{bytes_eq, IsNumeral, digits_value, without_leading_plus, Text, first_value, one_text, Found}
use Rattle.script.specs.declared.mode.Mode.{Mode}
use Rattle.script.specs.declared.mode.Schedule.{Schedule}
use Rattle.script.specs.declared.mode.Schedule.TheVariants.{Listed, Round}

-- the schedule of this name; the first one if none is named
abbrev pub schedule_named : Option Text → Option Schedule
schedule_named None = Some Listed
schedule_named (Some name) =
    if bytes_eq name (codes "listed") then Some Listed else if bytes_eq name (codes "round") then Some Round else None

-- the number of a text that is a u32's, and may begin with one `+`; 0 if there is none
abbrev pub IsNumber : Option Text → ℕ → Type 0
IsNumber None n = n ≡ 0
IsNumber (Some text) n = IsNumeral 10 (without_leading_plus text) → digits_value 10 (without_leading_plus text) < 2 ^ 32
    → n ≡ digits_value 10 (without_leading_plus text)

-- a flag that is given reads as "true", one that isn't as "false" or not at all
pub record IsFlag (text : Option Text) (flag : Bool) : Type 0 where
  pub none : text ≡ None → flag ≡ false
  pub given : text ≡ Some (codes "true") → flag ≡ true
  pub other : text ≡ Some (codes "false") → flag ≡ false

pub record IsModeOf (f : Found) (m : Mode) : Type 0 where
  pub schedule : schedule_named (first_value f (codes "schedule")) ≡ Some m.schedule
  pub last : IsNumber (one_text f (codes "last")) m.last
  pub timeline : IsFlag (one_text f (codes "timeline")) m.timeline
  pub explain : IsFlag (one_text f (codes "explain")) m.explain
  pub check : IsFlag (one_text f (codes "check")) m.check

-- none if there is no schedule of the name that is given
abbrev pub HasMode : Found → Option Mode → Type 0
HasMode f (Some m) = IsModeOf f m
HasMode f None = schedule_named (first_value f (codes "schedule")) ≡ None
