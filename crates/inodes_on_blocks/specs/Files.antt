-- The programs below of reading an open file. On a disk of these sizes; c: what the hart has of the inodes whose
-- locks it has.
use Rattle.std.specs.Prelude.{ℕ, ◌+◌, List, [], Option, Some}
use Rattle.inodes_on_blocks.specs.Vocabulary.{Ret, Do, bind, Handover, Loaded, Super, LockedState, Refuses, Locks, load_unless, FilledMemory, read_from, put, LockResult, NotLocked, LocksIt, LockFile, LockOpen, ReadFile}
use Rattle.fs_machine.specs.declared.files.OpenFile.{OpenFile}
use Rattle.fs_machine.specs.declared.files.Want.TheVariants as want
use Rattle.fs_machine.specs.Steps as steps
use Rattle.inode_machine.specs.World as above
use Rattle.inodes_on_blocks.specs.Basics.{Carry, Opened, Apart, Has, record_had, record_in, P, Handler, acts, cause_of}

-- ---- locked, by a descriptor

-- the record in hand, and the file's offset
abbrev pub with_file : {A : Type 0} → A → Carry → (fd n offset : ℕ) → Loaded → P (Handover A Carry)
with_file a c fd n offset l = Ret (record { answer = a; carry = put c n (Has l (Opened fd offset)) })

abbrev pub file_locked : Super → (fd : ℕ) → Carry → LockedState → P (Handover LockResult Carry)
file_locked sizes fd c (Refuses why) = Ret (record { answer = NotLocked (cause_of why); carry = c })
file_locked sizes fd c (Locks f content) =
    bind (load_unless sizes.inodestart f.number content) (with_file (LocksIt f.number f.offset) c fd f.number f.offset)

-- to read; it acts when the lock is taken
abbrev pub lock_file : Super → (fd : ℕ) → Handler (LockFile fd)
lock_file sizes fd c m = Do (steps.LockFile want.Read fd) (λ a. acts (LockFile fd) above.Room m) (file_locked sizes fd c)

abbrev pub open_locked : Super → (fd : ℕ) → Carry → OpenFile × Option Loaded → P (Handover (ℕ × ℕ) Carry)
open_locked sizes fd c locked = bind (load_unless sizes.inodestart locked.0.number locked.1)
    (with_file (locked.0.number, locked.0.offset) c fd locked.0.number locked.0.offset)

-- to write
abbrev pub lock_open : Super → (fd n : ℕ) → Handler (LockOpen fd n)
lock_open sizes fd n c m = Do (steps.LockOpen fd) (λ a. acts (LockOpen fd n) above.Room m) (open_locked sizes fd c)

-- ---- read

-- The lock is given up, and the offset moves by as much as was read: there the operation acts.
abbrev pub give_read : (fd n offset count : ℕ) → (List ℕ → Option above.Mark) → Carry → FilledMemory → P (Handover (List ℕ) Carry)
give_read fd n offset count m c f =
    Do (steps.Unlock (record { number = n; content = record_had (c n) }) (Some (fd, offset + f.count)))
    (λ a. acts (ReadFile fd n offset count) above.Room m)
    (λ a. Ret (record { answer = f.bytes; carry = put c n Apart }))

-- The part is read block by block, each as it was when the lock was taken.
abbrev pub read_file : (fd n offset count : ℕ) → Handler (ReadFile fd n offset count)
read_file fd n offset count c m = bind (read_from (record_in c n) offset count []) (give_read fd n offset count m c)
