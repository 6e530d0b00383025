-- Calls over whole inodes, run below.
use Rattle.std.specs.Prelude.{◌≡◌, ◌⊎◌, ℕ, List, [], ◌++◌, length, Some}
use Rattle.inode_parts.specs.Vocabulary.{Reply, Call, Super, Version, bind, P, Hand, Op, IsEmpty, program, read_of, WholeFits, first_in, second_in, text_in, whole_of, Whole}
use Rattle.plain_tree.specs.declared.call.Call.TheVariants as calls
use Rattle.inode_machine.specs.Parts as programs
use Rattle.inode_machine.specs.World as above
use Rattle.path_walk.specs.Asks.{asks}
use Rattle.whole_calls.specs.declared.reading.Read.TheVariants as reading
use Rattle.whole_calls.specs.declared.whole.Whole.TheVariants as whole
use Rattle.inode_parts.specs.Expecting.{BeginsWith}
use Rattle.inode_parts.specs.Holding.{Having, Runs}
use Rattle.inode_parts.specs.InodeParts.{part_left, part_asked, PartReady, PartTold, ReadsInto}
use Rattle.inode_parts.specs.Leaving.{having}
use Rattle.inode_parts.specs.Basics.{Part, hears_in, lowered, IsSized}
use Rattle.inode_parts.specs.UnderWay.{UnderWay}
use Rattle.inode_parts.specs.declared.lowered.Lowered.{Lowered}
use Rattle.inode_parts.specs.declared.part.InodePart.{InodePart}

-- ---- which calls run so

-- the path that has the names of a call, of two the second after the first; or its bytes
abbrev pub path_of : Call → List ℕ
path_of (calls.Open path flags) = path
path_of (calls.Read fd buf) = buf
path_of (calls.Write fd bytes) = bytes
path_of (calls.Link old new) = old ++ new
path_of (calls.Unlink path) = path
path_of (calls.Mkdir path) = path
path_of (calls.Chdir path) = path
path_of (calls.Dup fd) = []
path_of (calls.Fstat fd) = []
path_of (calls.Close fd) = []
path_of (calls.Inherit child) = []

-- with nothing in hand a call runs to its end by such parts
abbrev pub RunsByParts : Version → List ℕ → Call → Type 0
RunsByParts v path call = (s : Having) → IsEmpty s.hand → Runs v path (BeginsWith v path) (program v call) s

-- ---- the rest of a call

-- a read whose part comes next
abbrev pub IsReading : Whole → Type 0
IsReading (whole.Read fd buf (reading.Part n offset)) = Unit {0}
IsReading w = ⊥

-- the same read, with other bytes in its buffer
abbrev pub IsFilled : Whole → Whole → Type 0
IsFilled (whole.Read fd buf (reading.Part n offset)) (whole.Read gd new (reading.Part k at)) =
    (gd ≡ fd) × (k ≡ n) × (at ≡ offset) × (length new.items ≡ length buf.items)
IsFilled w v = ⊥

-- .. or the same call
abbrev pub FillsOrStays : Whole → Whole → Type 0
FillsOrStays w v = (v ≡ w) ⊎ IsFilled w v

-- the rest of the call, if such a read's buffer has these bytes by then
abbrev pub whole_with : Version → List ℕ → Whole → List ℕ → programs.P Reply
whole_with v ns (whole.Read fd buf (reading.Part n offset)) text = read_of fd text (reading.Part n offset)
whole_with v ns w text = whole_of v ns w

-- the part's program, and then the call's, with the text that the part hands over
abbrev pub with_text : Super → Part → (List ℕ → programs.P Reply) → P Reply
with_text sizes q p = bind q (λ r. lowered sizes r.carry (hears_in sizes (p r.answer.0) r.answer))

abbrev pub lowered_left : Lowered → Hand → P Reply
lowered_left l h = with_text l.sizes (part_left (text_in l.call) l.notes l.part h) (whole_with l.sizes.version l.list l.call)

abbrev pub lowered_asked : Lowered → Op
lowered_asked l = part_asked l.part

-- The program runs from some start on. Its first operation began there, and the operation's part is under way.
pub record IsOnWay (v : Version) (path : List ℕ) (p : programs.P Reply) (q : InodePart) (now : Having) : Type 0 where
  pub op : above.Op
  pub start : Having
  pub asked : asks p ≡ Some op
  pub runs : Runs v path (BeginsWith v path) p start
  pub under : UnderWay v path op start q now

pub record LoweredReady (l : Lowered) (h : Hand) : Type 0 where
  pub sized : IsSized l.sizes
  pub fits : WholeFits l.sizes.version l.list l.call
  pub ready : PartReady l.part h
  pub told : PartTold (first_in l.call) (second_in l.call) l.part
  pub reads : ReadsInto l.part → IsReading l.call
  pub way : IsOnWay l.sizes.version (text_in l.call) (whole_of l.sizes.version l.list l.call) l.part (having h l.notes)
