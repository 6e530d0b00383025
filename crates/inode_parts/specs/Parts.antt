-- A call over whole inodes, run below by parts.
use Rattle.std.specs.Prelude.{ℕ, List}
use Rattle.inode_parts.specs.Vocabulary.{Reply, Super, Ret, Do, unmarked, Handover, P, machine, OpAbove as Op, Answer, Carry, below, handlers, answer_to, Heard}
use Rattle.atomic_programs.specs.Below as layers
use Rattle.fs_machine.specs.Steps as steps
use Rattle.inode_machine.specs.Parts as above

-- what a part hands over: the call's text, into which bytes may have been read, and what is heard
abbrev pub Message : Type 0
Message = List ℕ × Heard

-- the operation's answer by that
abbrev pub answer_by : (op : Op) → Message → Answer op
answer_by op x = answer_to x.0 op x.1

abbrev pub Part : Type 0
Part = P (Handover Message Carry)

-- a part of one operation below, in a call with this text
abbrev pub one : List ℕ → (lop : steps.Op) → (steps.Answer lop → Heard) → (steps.Answer lop → Carry) → Part
one text lop heard carry = Do lop unmarked (λ a. Ret (record { answer = (text, heard a); carry = carry a }))

-- it is the program of an operation on whole inodes, on a disk of these sizes
abbrev pub IsPart : Super → Carry → Op → Part → Type 0
IsPart sizes = layers.IsPart (machine sizes.version) (below sizes) (handlers sizes) answer_by

-- a call's program below, and the same with a part of its next operation in front
abbrev pub lowered : Super → Carry → above.P Reply → P Reply
lowered sizes c p = layers.below (machine sizes.version) (below sizes) (handlers sizes) answer_by c p

-- how a call goes on with what a part hands over
abbrev pub hears_in : Super → above.P Reply → Message → above.P Reply
hears_in sizes = layers.hears (machine sizes.version) (below sizes) (handlers sizes) answer_by

abbrev pub with_part : Super → Part → above.P Reply → P Reply
with_part sizes q p = layers.with_part (machine sizes.version) (below sizes) (handlers sizes) answer_by q p
