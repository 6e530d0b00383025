-- How an operation goes on: it is still under way, or over.
use Rattle.std.specs.Prelude.{◌≡◌, ℕ, List, [], Bool, true, false, Option, Some, None}
use Rattle.inode_parts.specs.Vocabulary.{Hand, Version, answer_to, Heard}
use Rattle.inode_machine.specs.World as above
use Rattle.inode_parts.specs.Holding.{Having, Leaves}
use Rattle.inode_parts.specs.declared.note.Notes.{Notes}

abbrev pub having : Hand → Notes → Having
having h m = record { hand = h; notes = m }

-- what is heard, if the operation is over
abbrev pub heard_if : Bool → Heard → Option Heard
heard_if true x = Some x
heard_if false x = None

-- if nothing is heard it is still amid, and nothing was learned; else it leaves what its operation does
abbrev pub StaysOrLeaves : Version → (Hand → Type 0) → List ℕ → above.Op → Option Heard → Having → Having → Type 0
StaysOrLeaves v Amid path op None before after = Amid after.hand × (after.notes ≡ before.notes)
StaysOrLeaves v Amid path op (Some x) before after = Leaves v path op (answer_to [] op x) before after
