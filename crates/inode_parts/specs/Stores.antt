-- An inode's count put, as a part.
use Rattle.std.specs.Prelude.{◌≡◌, ◌<◌, ◌^◌, ℕ, List, None}
use Rattle.inode_parts.specs.Vocabulary.{Super, Ret, bind, Hand, First, Op, record_left, record_asked, record_place, record_seat, RecordReady}
use Rattle.path_walk.specs.declared.asks.Heard.TheVariants as heard
use Rattle.inode_parts.specs.Basics.{handed, with_note, IsAmid, MayChange, Part}
use Rattle.inode_parts.specs.declared.note.Note.TheVariants as note
use Rattle.inode_parts.specs.declared.note.Notes.{Notes}
use Rattle.inode_parts.specs.declared.changing_inodes.StorePart.{StorePart}

-- the record is in hand already
abbrev pub store_part_left : List ℕ → Notes → StorePart → Hand → Part
store_part_left path m p h = bind (record_left p.store h) (λ _. Ret (handed path (with_note p.seat note.Nothing m) heard.WasDone h))

abbrev pub store_part_asked : StorePart → Op
store_part_asked p = record_asked p.store

abbrev pub StorePartReady : StorePart → Hand → Type 0
StorePartReady p h = RecordReady p.store h × (record_seat p.store ≡ p.seat) × (record_place p.store ≡ First) × (h.second ≡ None)

-- of inode n
abbrev pub StoreAmid : ℕ → Hand → StorePart → Hand → Type 0
StoreAmid n start p now = IsAmid n start p.seat now

-- what it asks of the hand: a record has no higher count
abbrev pub StoreBegins : Super → (n count : ℕ) → Hand → Type 0
StoreBegins sizes n count h = MayChange sizes n h × (count < 2 ^ 15)
