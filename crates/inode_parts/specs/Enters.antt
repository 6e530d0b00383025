-- A name entered, as a part.
use Rattle.std.specs.Prelude.{◌≡◌, ◌*◌, ◌^◌, ◌<◌, ◌≤◌, ℕ, List, [], length}
use Rattle.inode_parts.specs.Vocabulary.{piece_len, IsName, bits_per_block, Dinode, IndexState, Super, Version, Ret, bind, EnteredState, Room, There, NoBlock, NoSlot, Hand, InodePlace, Op, with_index, enter_left, enter_asked, enter_seat, EnterReady, Ask}
use Rattle.path_walk.specs.declared.asks.Ask.TheVariants as ask
use Rattle.path_walk.specs.declared.asks.Entered.TheVariants as entry
use Rattle.path_walk.specs.declared.asks.Heard.TheVariants as heard
use Rattle.inode_parts.specs.Basics.{handed, changed, IsAmid, MayChange, Part, StandsIn}
use Rattle.inode_parts.specs.declared.note.Notes.{Notes}
use Rattle.inode_parts.specs.declared.changing_directories.EnterPart.{EnterPart}

-- what is heard of the room for it; without a slot the directory is as it was, and this is its index
abbrev pub entered_so : List ℕ → Notes → InodePlace → Hand → Dinode → IndexState → Room → Part
entered_so path m k h d x There = changed path m k (heard.Entered entry.InPlace) h (record { inode = d; index = x })
entered_so path m k h d x NoBlock = changed path m k (heard.Entered entry.NoBlock) h (record { inode = d; index = x })
entered_so path m k h d x NoSlot = Ret (handed path m (heard.Entered entry.NoSlot) (with_index k x h))

abbrev pub entered : List ℕ → Notes → InodePlace → Hand → EnteredState → Part
entered path m k h r = entered_so path m k h r.inode r.index r.room

-- the seat of the directory's lock
abbrev pub enter_part_seat : EnterPart → InodePlace
enter_part_seat p = enter_seat p.enter

abbrev pub enter_part_left : List ℕ → Notes → EnterPart → Hand → Part
enter_part_left path m p h = bind (enter_left p.enter h) (entered path m (enter_part_seat p) h)

abbrev pub enter_part_asked : EnterPart → Op
enter_part_asked p = enter_asked p.enter

abbrev pub EnterPartReady : EnterPart → Hand → Type 0
EnterPartReady p h = EnterReady p.enter h

-- into directory n
abbrev pub EnterAmid : ℕ → Hand → EnterPart → Hand → Type 0
EnterAmid n start p now = IsAmid n start (enter_part_seat p) now

-- what it asks: the disk's blocks have bits, and the name is one
abbrev pub EnterBegins : Super → ℕ → List ℕ → Hand → Type 0
EnterBegins sizes n name h = MayChange sizes n h × (sizes.size ≤ bits_per_block) × IsName sizes.version name

-- A name that is asked for is in one of the call's paths. There is room for what is read. A piece begins within its
-- bytes, and no second text is after them.
abbrev pub AskStands : Version → List ℕ → List ℕ → Ask → Type 0
AskStands v path second (ask.Enter d e n) = StandsIn v path second e
AskStands v path second (ask.ReadFile fd n offset count) = (count ≤ length path) × (count < 2 ^ 32) × (second ≡ [])
AskStands v path second (ask.WriteFile fd n offset i) = (piece_len * i ≤ length path) × (second ≡ [])
AskStands v path second a = Unit {0}
