-- What a descriptor names locked, to read it and to write it, as parts.
use Rattle.std.specs.Prelude.{◌≡◌, ℕ, List, Some, None}
use Rattle.inode_parts.specs.Vocabulary.{put, Loaded, Super, Ret, bind, LockedState, Refuses, Locks, OpenFile, Hand, Op, inode_at, file_left, file_asked, file_seat, open_left, open_asked, open_seat, FileReady, HasInodeBlocks, OpenReady, cause_of, Carry}
use Rattle.path_walk.specs.declared.asks.Heard.TheVariants as heard
use Rattle.path_walk.specs.declared.asks.Locked.TheVariants as locked
use Rattle.inode_parts.specs.Basics.{had_of, Comes, other, Part, beside_in}
use Rattle.inode_parts.specs.declared.locking_files.LockFilePart.{LockFilePart}
use Rattle.inode_parts.specs.declared.locking_files.LockOpenPart.{LockOpenPart}
use Rattle.inode_parts.specs.declared.note.Note.TheVariants as note
use Rattle.inode_parts.specs.declared.note.Notes.{Notes}

-- what they ask of the hand, on a disk of these sizes: no lock, and room for a block
abbrev pub LockBegins : Super → Hand → Type 0
LockBegins sizes h = HasInodeBlocks sizes.inodestart × (h.one ≡ None) × (h.two ≡ None) × (h.first ≡ None)

-- ---- to read it

abbrev pub file_ends : List ℕ → (fd : ℕ) → Carry → LockedState → Part
file_ends path fd c (Refuses why) = Ret (record { answer = (path, heard.Locked (locked.Refused (cause_of why))); carry = c })
file_ends path fd c (Locks f content) = Ret
    (record {
      answer = (path, heard.Locked (locked.Locks f.number f.offset));
      carry = put c f.number (had_of path (note.Opened fd f.offset) content);
    })

abbrev pub lock_file_left : List ℕ → Notes → LockFilePart → Hand → Part
lock_file_left path m p h = bind (file_left p.lock h) (file_ends path p.fd (beside_in path m (file_seat p.lock) h))

abbrev pub lock_file_asked : LockFilePart → Op
lock_file_asked p = file_asked p.lock

abbrev pub LockFileReady : LockFilePart → Hand → Type 0
LockFileReady p h = FileReady p.lock h × (inode_at (other (file_seat p.lock)) h ≡ None)

-- it is this descriptor's, whose lock comes
abbrev pub LockFileAmid : (fd : ℕ) → Hand → LockFilePart → Hand → Type 0
LockFileAmid fd start p now = (p.fd ≡ fd) × Comes (file_seat p.lock) start now

-- ---- to write it

abbrev pub open_ends : List ℕ → (fd : ℕ) → Carry → OpenFile × Loaded → Part
open_ends path fd c locked = Ret
    (record {
      answer = (path, heard.At locked.0.number locked.0.offset);
      carry = put c locked.0.number (had_of path (note.Opened fd locked.0.offset) (Some locked.1));
    })

abbrev pub lock_open_left : List ℕ → Notes → LockOpenPart → Hand → Part
lock_open_left path m p h = bind (open_left p.lock h) (open_ends path p.fd (beside_in path m (open_seat p.lock) h))

abbrev pub lock_open_asked : LockOpenPart → Op
lock_open_asked p = open_asked p.lock

abbrev pub LockOpenReady : LockOpenPart → Hand → Type 0
LockOpenReady p h = OpenReady p.lock h × (inode_at (other (open_seat p.lock)) h ≡ None)

abbrev pub LockOpenAmid : (fd : ℕ) → Hand → LockOpenPart → Hand → Type 0
LockOpenAmid fd start p now = (p.fd ≡ fd) × Comes (open_seat p.lock) start now
