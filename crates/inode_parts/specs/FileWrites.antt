-- A piece of bytes written to an open file, as a part.
use Rattle.std.specs.Prelude.{◌≡◌, ◌*◌, ◌+◌, ◌-◌, ◌==◌, ◌<◌, ◌≤◌, ◌^◌, ℕ, List, length, if◌then◌else◌, None, IsSome}
use Rattle.inode_parts.specs.Vocabulary.{piece, piece_len, bits_per_block, Super, Ret, Do, bind, unmarked, inode_block, WriteResult, Inode, Hand, InodePlace, Op, inode_at, inode_in, stands_so, HasNoBuffer, IsLoadedAt, write_asked, write_left, WriteReady, WritePart, Written, nothing, Wrote}
use Rattle.fs_machine.specs.Steps as steps
use Rattle.fs_machine.specs.declared.op.Op.TheVariants as ops
use Rattle.inode_data.specs.declared.write_part.WritePart.TheVariants as write
use Rattle.path_walk.specs.declared.asks.Heard.TheVariants as heard
use Rattle.path_walk.specs.declared.asks.Wrote.TheVariants as wrote
use Rattle.inode_parts.specs.Basics.{IsAmid, moved, IsOnly, other, Part}
use Rattle.inode_parts.specs.Expecting.{HasOpened}
use Rattle.inode_parts.specs.Holding.{Having}
use Rattle.inode_parts.specs.declared.file_bytes.LockedFile.{LockedFile}
use Rattle.inode_parts.specs.declared.file_bytes.WriteFilePart.{WriteFilePart}
use Rattle.inode_parts.specs.declared.file_bytes.WriteFilePart.TheVariants.{Denied, Writing, Ending}

-- what is heard if these bytes were written from an offset up to another one
abbrev pub wrote_upto : (offset : ℕ) → List ℕ → (upto : ℕ) → Wrote
wrote_upto offset bytes upto = if upto == offset + length bytes then wrote.Whole else wrote.Short (upto - offset)

-- the file moves to the end of the written bytes, and the inode's record is that with their blocks
abbrev pub write_over : List ℕ → LockedFile → List ℕ → Inode → WriteResult → Part
write_over text f bytes v w = moved f (stands_so w.inode v) w.upto text (heard.Wrote (wrote_upto f.offset bytes w.upto))

abbrev pub write_file_left : List ℕ → WriteFilePart → Hand → Part
write_file_left text (Denied k why) h =
    Do (steps.Unlock (inode_in k h) None) unmarked (λ _. Ret (record { answer = (text, heard.Wrote (wrote.Refused why)); carry = nothing }))
write_file_left text (Writing f i p) h = bind (write_left (piece text i) p h) (write_over text f (piece text i) (inode_in f.seat h))
write_file_left text (Ending f upto w) h = moved f (inode_in f.seat h) upto text (heard.Wrote w)

abbrev pub write_file_asked : WriteFilePart → Op
write_file_asked (Denied k why) = ops.Unlock k
write_file_asked (Writing f i p) = write_asked p
write_file_asked (Ending f upto w) = ops.UnlockMoving f.seat f.fd upto

abbrev pub WriteFileReady : WriteFilePart → Hand → Type 0
WriteFileReady (Denied k why) h = IsSome (inode_at k h) × (inode_at (other k) h ≡ None) × HasNoBuffer h
WriteFileReady (Writing f i p) h = IsLoadedAt f.seat h × IsOnly f h × ((bytes : List ℕ) × WriteReady bytes p h)
WriteFileReady (Ending f upto w) h = IsSome (inode_at f.seat h) × IsOnly f h × HasNoBuffer h

-- how many of its bytes were written before the next block
abbrev pub write_done : WritePart → ℕ
write_done (write.Locating w m) = w.done
write_done (write.Fetching w d m) = w.done
write_done (write.There w d) = w.done
write_done (write.Storing r m) = 0

-- its piece begins within the text, and has those
abbrev pub WriteFileTold : List ℕ → WriteFilePart → Type 0
WriteFileTold text (Denied k why) = Unit {0}
WriteFileTold text (Writing f i p) = (piece_len * i ≤ length text) × (write_done p ≤ length (piece text i))
WriteFileTold text (Ending f upto w) = Unit {0}

abbrev pub write_seat : WriteFilePart → InodePlace
write_seat (Denied k why) = k
write_seat (Writing f i p) = f.seat
write_seat (Ending f upto w) = f.seat

-- it ends so
abbrev pub ended_as : LockedFile → List ℕ → Written → WriteFilePart
ended_as f bytes r = Ending f r.upto (wrote_upto f.offset bytes r.upto)

-- what it asks: a transaction, and blocks that have numbers and bits
abbrev pub WriteBegins : Super → (fd n offset : ℕ) → Having → Type 0
WriteBegins sizes fd n offset s =
    HasOpened fd n offset s × IsSome s.hand.txn × (inode_block sizes.inodestart n < 2 ^ 32) × (sizes.size ≤ bits_per_block)

-- of inode n
abbrev pub WriteFileAmid : ℕ → Hand → WriteFilePart → Hand → Type 0
WriteFileAmid n start p now = IsAmid n start (write_seat p) now
