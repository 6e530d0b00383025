-- What a call hands back when it ends: itself, but for the bytes that a read has read.
use Rattle.std.specs.Prelude.{◌≡◌, ◌≤◌, ℕ, List, length, drop, Option, Some, None, IfSome}
use Rattle.locked_world.specs.Vocabulary.{block_len, Reply, Call, Open, Read, Write, Link, Unlink, Mkdir, Chdir, Dup, Fstat, Close, Inherit, Ret, Do, P, Op, Answer}
use Rattle.plain_tree.specs.declared.answer.Answer.{Answer as ReplyAnswer}
use Rattle.plain_tree.specs.declared.answer.Answer.TheVariants as answers
use Rattle.fs_machine.specs.Steps as steps

-- how many bytes a read has put at the beginning of its buffer
abbrev pub read_count : ReplyAnswer → ℕ
read_count (answers.Fd n) = 0
read_count (answers.Count n) = n
read_count (answers.Stat s) = 0
read_count answers.Done = 0
read_count (answers.Failed cause) = 0
read_count (answers.Full what) = 0

-- the buffer has its length, and its bytes after the first n
abbrev pub KeepsAfter : ℕ → List ℕ → List ℕ → Type 0
KeepsAfter n given back = (length back ≡ length given) × (drop n back ≡ drop n given)

-- the reply's call is the one given, but for the bytes that a read has read
abbrev pub HandsBack : Call → Reply → Type 0
HandsBack (Open path flags) reply = reply.call ≡ Open path flags
HandsBack (Read fd buffer) reply = (back : List ℕ) × (reply.call ≡ Read fd back) × KeepsAfter (read_count reply.answer) buffer back
HandsBack (Write fd bytes) reply = reply.call ≡ Write fd bytes
HandsBack (Link old new) reply = reply.call ≡ Link old new
HandsBack (Unlink path) reply = reply.call ≡ Unlink path
HandsBack (Mkdir path) reply = reply.call ≡ Mkdir path
HandsBack (Chdir path) reply = reply.call ≡ Chdir path
HandsBack (Dup fd) reply = reply.call ≡ Dup fd
HandsBack (Fstat fd) reply = reply.call ≡ Fstat fd
HandsBack (Close fd) reply = reply.call ≡ Close fd
HandsBack (Inherit child) reply = reply.call ≡ Inherit child

-- a block that is answered is no longer than a block
abbrev pub FitsBlock : (op : Op) → Answer op → Type 0
FitsBlock (steps.Get b) a = IfSome a (λ bytes. length bytes ≤ block_len)
FitsBlock (steps.Read b) a = length a ≤ block_len
FitsBlock op a = Unit {0}

-- If the program ends, it ends so.
abbrev pub EndsWith : {A : Type 0} → (A → Type 0) → P A → Type 0
EndsWith Is (Ret a) = Is a
EndsWith Is (Do op m k) = (a : Answer op) → FitsBlock op a → EndsWith Is (k a)

-- a hart at a call has a copy of that call laid by
abbrev pub SpareFits : Option Call → Option (P Reply) → Type 0
SpareFits spare None = Unit {0}
SpareFits spare (Some p) = (call : Call) × (spare ≡ Some call) × EndsWith (HandsBack call) p
