-- An inode freed, as a part.
use Rattle.std.specs.Prelude.{◌≡◌, ℕ, List, IsSome}
use Rattle.inode_parts.specs.Vocabulary.{put, Super, Ret, bind, Hand, Op, inode_at, IsEmptying, HasNoBuffer, freeing_left, freeing_asked, freeing_of, FreeingReady, number_in, Carry, Emptied}
use Rattle.path_walk.specs.declared.asks.Heard.TheVariants as heard
use Rattle.inode_parts.specs.Basics.{IsAmid, HasLock, IsAlone, seat_of_lock, Part, beside_in}
use Rattle.inode_parts.specs.declared.note.Notes.{Notes}
use Rattle.inode_parts.specs.declared.changing_inodes.FreePart.{FreePart}

-- nothing is had of it then
abbrev pub free_ends : List ℕ → Carry → ℕ → Unit {0} → Part
free_ends text c n _ = Ret (record { answer = (text, heard.WasDone); carry = put c n Emptied })

abbrev pub free_left : List ℕ → Notes → FreePart → Hand → Part
free_left path m p h = bind (freeing_left p.free h) (free_ends path (beside_in path m p.seat h) (number_in p.seat h))

abbrev pub free_asked : FreePart → Op
free_asked p = freeing_asked p.free

-- the lock is at its seat alone
abbrev pub FreeReady : FreePart → Hand → Type 0
FreeReady p h =
    FreeingReady p.free h × ((freeing_of p.free).seat ≡ p.seat) × IsSome (inode_at p.seat h) × IsAlone (number_in p.seat h) p.seat h

-- that of inode n
abbrev pub FreeAmid : ℕ → Hand → FreePart → Hand → Type 0
FreeAmid n start p now = IsAmid n start p.seat now

-- what it asks of the hand
abbrev pub FreeBegins : Super → ℕ → Hand → Type 0
FreeBegins sizes n h = HasLock n h × IsEmptying (record { seat = seat_of_lock n h; sizes = sizes }) h × HasNoBuffer h
