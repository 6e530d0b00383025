-- A part of an open file read, as a part.
use Rattle.std.specs.Prelude.{◌≡◌, ◌+◌, ◌<◌, ◌≤◌, ◌^◌, ◌++◌, ℕ, List, length, drop, IsSome}
use Rattle.inode_parts.specs.Vocabulary.{Reply, bind, Handover, P, FilledMemory, Hand, InodePlace, Op, inode_at, inode_in, HasNoBuffer, record_in, IsLoadedAt, filled_to, read_asked, read_count, read_left, ReadReady, Carry}
use Rattle.fs_machine.specs.declared.op.Op.TheVariants as ops
use Rattle.path_walk.specs.declared.asks.Heard.TheVariants as heard
use Rattle.inode_parts.specs.Basics.{IsAmid, moved, IsOnly, Message, Part}
use Rattle.inode_parts.specs.declared.file_bytes.LockedFile.{LockedFile}
use Rattle.inode_parts.specs.declared.file_bytes.ReadFilePart.{ReadFilePart}
use Rattle.inode_parts.specs.declared.file_bytes.ReadFilePart.TheVariants.{Reading, Ending}

-- the file moves past the bytes that were read
abbrev pub read_over : LockedFile → Hand → FilledMemory → Part
read_over f h m = moved f (inode_in f.seat h) (f.offset + m.count) m.bytes (heard.Read m.count)

abbrev pub read_file_left : List ℕ → ReadFilePart → Hand → Part
read_file_left text (Reading f p) h = bind (read_left (record_in f.seat h) text p h) (read_over f h)
read_file_left text (Ending f count) h = read_over f h (filled_to count text)

abbrev pub read_file_asked : ReadFilePart → Op
read_file_asked (Reading f p) = read_asked p
read_file_asked (Ending f count) = ops.UnlockMoving f.seat f.fd (f.offset + count)

-- the file's offset has room for this number of bytes more
abbrev pub MayMove : LockedFile → ℕ → Type 0
MayMove f count = f.offset + count < 2 ^ 32

abbrev pub ReadFileReady : ReadFilePart → Hand → Type 0
ReadFileReady (Reading f p) h = IsLoadedAt f.seat h × IsOnly f h × MayMove f (read_count p) × ((bytes : List ℕ) × ReadReady bytes p h)
ReadFileReady (Ending f count) h = IsSome (inode_at f.seat h) × IsOnly f h × MayMove f count × HasNoBuffer h

-- the text has room for what is read
abbrev pub ReadFileTold : List ℕ → ReadFilePart → Type 0
ReadFileTold text (Reading f p) = read_count p ≤ length text
ReadFileTold text (Ending f count) = count ≤ length text

abbrev pub read_seat : ReadFilePart → InodePlace
read_seat (Reading f p) = f.seat
read_seat (Ending f count) = f.seat

-- of inode n
abbrev pub ReadFileAmid : ℕ → Hand → ReadFilePart → Hand → Type 0
ReadFileAmid n start p now = IsAmid n start (read_seat p) now

-- at each of its ends the bytes that were read are at the text's front, and after them what was there
abbrev pub filled : List ℕ → List ℕ → Carry → Handover Message Carry
filled text b c = record { answer = (b ++ drop (length b) text, heard.Read (length b)); carry = c }

abbrev pub FillsFrom : List ℕ → Part → Type 0
FillsFrom text q =
    (f g : Handover Message Carry → P Reply) → ((b : List ℕ) (c : Carry) → f (filled text b c) ≡ g (filled text b c)) → bind q f ≡ bind q g
