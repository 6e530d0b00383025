-- The programs below of writing an open file. On a disk of these sizes; c: what the hart has of the inodes whose
-- locks it has.
use Rattle.std.specs.Prelude.{ℕ, ◌+◌, ◌-◌, ◌<◌, ◌==◌, nat_lt, if◌then◌else◌, List, length, Option, Some, None}
use Rattle.inodes_on_blocks.specs.Vocabulary.{Ret, Do, bind, Handover, Dinode, Super, IsBytes, most_bytes, WriteResult, write_part, Cause, put, Wrote, Whole, Stopped as Refused, Short, WriteFile}
use Rattle.fs_machine.specs.Steps as steps
use Rattle.plain_tree.specs.declared.answer.Cause.TheVariants as causes
use Rattle.inode_machine.specs.World as above
use Rattle.inodes_on_blocks.specs.Basics.{Carry, Apart, record_had, record_in, recorded_in, P, Handler, acts, one}
use Rattle.inodes_on_blocks.specs.Spending.{DoesItWithin}

-- why a piece isn't written: its offset is past the size, or its end past that of the greatest content
abbrev pub refused_in : Dinode → (offset : ℕ) → List ℕ → Option Cause
refused_in d offset bytes =
    if nat_lt d.size offset then Some causes.BadOffset else (if nat_lt most_bytes (offset + length bytes) then Some causes.TooBig else None)

-- the lock is given up as it was
abbrev pub deny_write : (fd n offset : ℕ) (bytes : List ℕ) → (Wrote → Option above.Mark) → Carry → Cause → P (Handover Wrote Carry)
deny_write fd n offset bytes m c why = one (WriteFile fd n offset bytes) m
    (steps.Unlock (record { number = n; content = record_had (c n) }) None) (λ a. Refused why) (λ a. put c n Apart)

-- what is answered if the bytes are written up to an offset, and what came from outside then
abbrev pub wrote_to : (offset : ℕ) → List ℕ → (upto : ℕ) → Wrote
wrote_to offset bytes upto = if upto == offset + length bytes then Whole else Short (upto - offset)

abbrev pub room_to : (offset : ℕ) → List ℕ → (upto : ℕ) → above.Outside
room_to offset bytes upto = if upto == offset + length bytes then above.Room else above.RoomFor (upto - offset)

-- The lock is given up, and the offset moves to the end of the written bytes: there the operation acts.
abbrev pub give_written : (fd n offset : ℕ) (bytes : List ℕ) → (Wrote → Option above.Mark) → Carry → WriteResult → P (Handover Wrote Carry)
give_written fd n offset bytes m c w =
    Do (steps.Unlock (record { number = n; content = Some (recorded_in c n w.inode) }) (Some (fd, w.upto)))
    (λ a. acts (WriteFile fd n offset bytes) (room_to offset bytes w.upto) m)
    (λ a. Ret (record { answer = wrote_to offset bytes w.upto; carry = put c n Apart }))

abbrev pub write_unless : Super → (fd n offset : ℕ) (bytes : List ℕ) → (Wrote → Option above.Mark) → Carry → Option Cause
    → P (Handover Wrote Carry)
write_unless sizes fd n offset bytes m c (Some why) = deny_write fd n offset bytes m c why
write_unless sizes fd n offset bytes m c None = bind (write_part sizes n (record_in c n) offset bytes) (give_written fd n offset bytes m c)

-- The blocks are written, and the record is put after them.
abbrev pub write_file : Super → (fd n offset : ℕ) (bytes : List ℕ) → Handler (WriteFile fd n offset bytes)
write_file sizes fd n offset bytes c m = write_unless sizes fd n offset bytes m c (refused_in (record_in c n) offset bytes)

-- ---- the law

-- If some bytes must be written this program does the operation, as the others do theirs that record.
abbrev pub WritesActOnce : Super → Type 0
WritesActOnce sizes = (fd n offset : ℕ) (bytes : List ℕ) → 0 < length bytes → IsBytes bytes
    → DoesItWithin sizes (WriteFile fd n offset bytes) (write_file sizes fd n offset bytes)
