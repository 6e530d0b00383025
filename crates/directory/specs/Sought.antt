-- What is sought among the slots of a directory, and what is found.
use Rattle.std.specs.Prelude.{◌<◌, Option, IfSome}
use Rattle.directory.specs.Vocabulary.{IsName, Version}
use Rattle.directory.specs.Programs.{Aim, Named, Unused, Entry, most_slots}
use Rattle.directory.specs.declared.found.Found.{Found}
use Rattle.directory.specs.declared.found.Sought.{Sought}
use Rattle.directory.specs.declared.found.Sought.TheVariants as sought

-- what the code seeks
abbrev pub aim_of : Sought → Aim
aim_of (sought.Name name) = Named name.now
aim_of sought.Free = Unused
aim_of sought.Entry = Entry

-- a name that is sought is one
abbrev pub IsSought : Version → Sought → Type 0
IsSought v (sought.Name name) = IsName v name.now
IsSought v sought.Free = Unit {0}
IsSought v sought.Entry = Unit {0}

-- it is one of the slots that a directory may have
abbrev pub IsSlot : Version → Option Found → Type 0
IsSlot v found = IfSome found (λ f. f.slot < most_slots v)
