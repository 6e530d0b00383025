-- The programs of the calls on descriptors: dup, close, fstat, read, write.
use Rattle.std.specs.Prelude.{ℕ, zero, suc, ◌-◌, ◌+◌, List, [], ◌∷◌, ◌++◌, take, drop as past, length, Option, Some, None}
use Rattle.plain_tree.specs.declared.answer.Answer.TheVariants as answers
use Rattle.inode_machine.specs.Vocabulary.{Cause, BadDescriptor, Descriptors, Blocks, Reply, piece, piece_count, Ret, Do, unmarked}
use Rattle.plain_tree.specs.declared.call.Call.TheVariants as calls
use Rattle.plain_tree.specs.declared.step.Action.TheVariants as steps
use Rattle.inode_machine.specs.Basics.{Face, stat_of_face, Mark, LockResult, NotLocked, LocksIt, JoinResult, NotJoined, Joined, Wrote, Whole, Refused, Short, P, own_step, failed, full, done, say, drop}
use Rattle.inode_machine.specs.World.Op.{UnlockInode, StatFile, LockFile, ReadFile, CheckFile, JoinFile, LockOpen, WriteFile, Double, Shut, Join, Leave}
use Rattle.inode_machine.specs.World.Mark.{Fills, Spoils}

-- dup: one step for descriptor and count; without an open file the reply alone

abbrev pub dups : ℕ → Option (Option ℕ) → Option Mark
dups fd None = own_step (steps.Dup fd)
dups fd (Some None) = Some Fills
dups fd (Some (Some f)) = own_step (steps.Dup fd)

abbrev pub dup_on : ℕ → Option (Option ℕ) → P Reply
dup_on fd None = Ret (failed (calls.Dup fd) BadDescriptor)
dup_on fd (Some None) = say (full (calls.Dup fd) Descriptors)
dup_on fd (Some (Some f)) = say (record { answer = answers.Fd f; call = calls.Dup fd })

abbrev pub dup_program : ℕ → P Reply
dup_program fd = Do (Double fd) (dups fd) (dup_on fd)

-- close: with the last descriptor the open file's reference is dropped

abbrev pub close_on : ℕ → Option (Option ℕ) → P Reply
close_on fd None = Ret (failed (calls.Close fd) BadDescriptor)
close_on fd (Some None) = say (done (calls.Close fd))
close_on fd (Some (Some n)) = Do Join unmarked (λ _. drop n (Do Leave unmarked (λ _. say (done (calls.Close fd)))))

abbrev pub close_program : ℕ → P Reply
close_program fd = Do (Shut fd) (λ a. own_step (steps.Close fd)) (close_on fd)

-- fstat

abbrev pub stat_reply : ℕ → ℕ → Face → Reply
stat_reply fd n f = record { answer = answers.Stat (stat_of_face n f); call = calls.Fstat fd }

abbrev pub stat_on : ℕ → Option (ℕ × Face) → P Reply
stat_on fd None = Ret (failed (calls.Fstat fd) BadDescriptor)
stat_on fd (Some p) = Do (UnlockInode p.0) unmarked (λ _. say (stat_reply fd p.0 p.1))

abbrev pub stat_program : ℕ → P Reply
stat_program fd = Do (StatFile fd) (λ a. own_step (steps.Fstat fd)) (stat_on fd)

-- read: the inode is locked, then a part read, and the offset moves, with the lock given up; or the descriptor isn't for that

abbrev pub read_reply : ℕ → List ℕ → List ℕ → Reply
read_reply fd buffer b = record { answer = answers.Count (length b); call = calls.Read fd (b ++ past (length b) buffer) }

abbrev pub refused_read : ℕ → ℕ → LockResult → Option Mark
refused_read fd count (NotLocked c) = own_step (steps.Read fd count)
refused_read fd count (LocksIt n offset) = None

abbrev pub read_on : ℕ → List ℕ → LockResult → P Reply
read_on fd buffer (NotLocked c) = Ret (failed (calls.Read fd buffer) c)
read_on fd buffer (LocksIt n offset) =
    Do (ReadFile fd n offset (length buffer)) (λ b. own_step (steps.Read fd (length buffer))) (λ b. say (read_reply fd buffer b))

abbrev pub read_program : ℕ → List ℕ → P Reply
read_program fd buffer = Do (LockFile fd) (refused_read fd (length buffer)) (read_on fd buffer)

-- write: each piece in a transaction of its own; the first that is refused, or finds no block, ends the call

abbrev pub write_reply : ℕ → List ℕ → Reply
write_reply fd bytes = record { answer = answers.Count (length bytes); call = calls.Write fd bytes }

abbrev pub writes : ℕ → List ℕ → Wrote → Option Mark
writes fd b Whole = own_step (steps.WritePart fd b)
writes fd b (Refused c) = own_step (steps.WritePart fd b)
writes fd b (Short k) = Some (Spoils (steps.WritePart fd (take k b)))

abbrev pub wrote_on : ℕ → List ℕ → P Reply → Wrote → P Reply
wrote_on fd bytes more Whole = more
wrote_on fd bytes more (Refused c) = say (failed (calls.Write fd bytes) c)
wrote_on fd bytes more (Short k) = say (full (calls.Write fd bytes) Blocks)

abbrev pub write_piece : ℕ → ℕ → List ℕ → ℕ → P Reply → P Reply
write_piece fd n bytes i more =
    Do (LockOpen fd n) unmarked (λ at.
    Do (WriteFile fd at.0 at.1 (piece bytes i)) (writes fd (piece bytes i)) (λ a.
    Do Leave unmarked (λ _.
    wrote_on fd bytes more a)))

-- so many pieces past this one
abbrev pub write_from : ℕ → ℕ → List ℕ → ℕ → ℕ → P Reply
write_from fd n bytes zero i = write_piece fd n bytes i (say (write_reply fd bytes))
write_from fd n bytes (suc left) i = write_piece fd n bytes i (Do Join unmarked (λ _. write_from fd n bytes left (i + 1)))

abbrev pub refused_to : ℕ → List ℕ → JoinResult → Option Mark
refused_to fd b (NotJoined c) = own_step (steps.WritePart fd b)
refused_to fd b (Joined n) = None

abbrev pub joined_on : ℕ → List ℕ → JoinResult → P Reply
joined_on fd bytes (NotJoined c) = Ret (failed (calls.Write fd bytes) c)
joined_on fd bytes (Joined n) = write_from fd n bytes (piece_count bytes - 1) 0

abbrev pub checked_reply : ℕ → Option Cause → Reply
checked_reply fd None = write_reply fd []
checked_reply fd (Some c) = failed (calls.Write fd []) c

abbrev pub write_program : ℕ → List ℕ → P Reply
write_program fd [] = Do (CheckFile fd) (λ o. own_step (steps.WritePart fd [])) (λ o. Ret (checked_reply fd o))
write_program fd (b ∷ bs) = Do (JoinFile fd) (refused_to fd (piece (b ∷ bs) 0)) (joined_on fd (b ∷ bs))
