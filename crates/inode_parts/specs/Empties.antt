-- A content emptied, as a part.
use Rattle.std.specs.Prelude.{ℕ, List}
use Rattle.inode_parts.specs.Vocabulary.{Super, bind, Hand, InodePlace, Op, truncate_left, truncate_asked, emptying_of, TruncateReady}
use Rattle.path_walk.specs.declared.asks.Heard.TheVariants as heard
use Rattle.inode_parts.specs.Basics.{rewritten, IsAmid, MayChange, Part}
use Rattle.inode_parts.specs.declared.note.Notes.{Notes}
use Rattle.inode_parts.specs.declared.changing_inodes.EmptyPart.{EmptyPart}

abbrev pub empty_seat : EmptyPart → InodePlace
empty_seat p = (emptying_of p.truncate).seat

abbrev pub empty_part_left : List ℕ → Notes → EmptyPart → Hand → Part
empty_part_left path m p h = bind (truncate_left p.truncate h) (rewritten path m (empty_seat p) heard.WasDone h)

abbrev pub empty_part_asked : EmptyPart → Op
empty_part_asked p = truncate_asked p.truncate

abbrev pub EmptyPartReady : EmptyPart → Hand → Type 0
EmptyPartReady p h = TruncateReady p.truncate h

-- that of inode n
abbrev pub EmptyAmid : ℕ → Hand → EmptyPart → Hand → Type 0
EmptyAmid n start p now = IsAmid n start (empty_seat p) now

abbrev pub EmptyBegins : Super → ℕ → Hand → Type 0
EmptyBegins sizes n h = MayChange sizes n h
