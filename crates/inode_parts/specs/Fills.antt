-- The names of a new directory written, as a part.
use Rattle.std.specs.Prelude.{◌≤◌, ℕ, List}
use Rattle.inode_parts.specs.Vocabulary.{bits_per_block, Super, bind, Hand, InodePlace, Op, unindexed, IsLoadedAt, fill_left, fill_asked, FillReady, Filled}
use Rattle.path_walk.specs.declared.asks.Heard.TheVariants as heard
use Rattle.inode_parts.specs.Basics.{changed, IsAmid, MayChange, Part}
use Rattle.inode_parts.specs.declared.note.Notes.{Notes}
use Rattle.inode_parts.specs.declared.changing_directories.FillPart.{FillPart}

-- whether both were written is heard; none of the directory's names is indexed
abbrev pub filled : List ℕ → Notes → InodePlace → Hand → Filled → Part
filled path m k h f = changed path m k (heard.Is f.whole) h (unindexed f.inode)

abbrev pub fill_part_left : List ℕ → Notes → FillPart → Hand → Part
fill_part_left path m p h = bind (fill_left p.fill h) (filled path m p.seat h)

abbrev pub fill_part_asked : FillPart → Op
fill_part_asked p = fill_asked p.fill

abbrev pub FillPartReady : FillPart → Hand → Type 0
FillPartReady p h = FillReady p.fill h × IsLoadedAt p.seat h

-- into directory n
abbrev pub FillAmid : ℕ → Hand → FillPart → Hand → Type 0
FillAmid n start p now = IsAmid n start p.seat now

-- what it asks: the disk's blocks have bits
abbrev pub FillBegins : Super → ℕ → Hand → Type 0
FillBegins sizes n h = MayChange sizes n h × (sizes.size ≤ bits_per_block)
