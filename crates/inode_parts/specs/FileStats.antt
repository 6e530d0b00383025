-- What a descriptor names locked, to answer its state, as a part.
use Rattle.std.specs.Prelude.{◌≡◌, ℕ, List, None}
use Rattle.inode_parts.specs.Vocabulary.{option_map, put, Loaded, Ret, bind, LockedState, Refuses, Locks, Hand, Op, inode_at, file_left, file_asked, file_seat, FileReady, Carry, Face}
use Rattle.path_walk.specs.declared.asks.Heard.TheVariants as heard
use Rattle.inode_parts.specs.Basics.{had_of, Comes, face_by, other, Part, beside_in}
use Rattle.inode_parts.specs.declared.note.Note.TheVariants as note
use Rattle.inode_parts.specs.declared.note.Notes.{Notes}
use Rattle.inode_parts.specs.declared.locking_files.StatFilePart.{StatFilePart}

-- the state of inode n
abbrev pub state_by : ℕ → Loaded → ℕ × Face
state_by n l = (n, face_by l.inode)

abbrev pub stat_ends : List ℕ → Carry → LockedState → Part
stat_ends path c (Refuses why) = Ret (record { answer = (path, heard.Stat None); carry = c })
stat_ends path c (Locks f content) = Ret
    (record {
      answer = (path, heard.Stat (option_map (state_by f.number) content));
      carry = put c f.number (had_of path note.Nothing content);
    })

abbrev pub stat_left : List ℕ → Notes → StatFilePart → Hand → Part
stat_left path m p h = bind (file_left p.lock h) (stat_ends path (beside_in path m (file_seat p.lock) h))

abbrev pub stat_asked : StatFilePart → Op
stat_asked p = file_asked p.lock

abbrev pub StatReady : StatFilePart → Hand → Type 0
StatReady p h = FileReady p.lock h × (inode_at (other (file_seat p.lock)) h ≡ None)

abbrev pub StatAmid : Hand → StatFilePart → Hand → Type 0
StatAmid start p now = Comes (file_seat p.lock) start now
