-- At which of its program's steps on the blocks an operation on whole inodes acts.
use Rattle.std.specs.Prelude.{◌≡◌, ◌⊎◌, true, Option, None, is_some}
use Rattle.run_laws.specs.Vocabulary.{Super, Handover, Prog, Ret, Do, Claim, LockFile, LockOpen, StatFile, Take, Carry, HasInodes, handlers}
use Rattle.inode_machine.specs.World as above
use Rattle.inode_machine.specs.World.Op.{Leave}
use Rattle.inodes_on_blocks.specs.Handlers.{P}

-- ---- marks

-- the program is at its end
abbrev pub IsAtEnd : {Op : Type 0} {Answer : Op → Type 0} {M A : Type 0} → Prog Op Answer M A → Type 0
IsAtEnd (Ret a) = Unit {0}
IsAtEnd (Do op m k) = ⊥

-- Whatever its steps are answered, none of them is marked.
abbrev pub MarksNone : {Op : Type 0} {Answer : Op → Type 0} {M A : Type 0} → Prog Op Answer M A → Type 0
MarksNone (Ret a) = Unit {0}
MarksNone {Op} {Answer} (Do op m k) = (a : Answer op) → (m a ≡ None) × MarksNone (k a)

-- only the first one is marked
abbrev pub MarksFirst : {Op : Type 0} {Answer : Op → Type 0} {M A : Type 0} → Prog Op Answer M A → Type 0
MarksFirst (Ret a) = ⊥
MarksFirst {Op} {Answer} (Do op m k) = (a : Answer op) → (is_some (m a) ≡ true) × MarksNone (k a)

-- only the last one is
abbrev pub MarksLast : {Op : Type 0} {Answer : Op → Type 0} {M A : Type 0} → Prog Op Answer M A → Type 0
MarksLast (Ret a) = ⊥
MarksLast {Op} {Answer} (Do op m k) = (a : Answer op) → ((is_some (m a) ≡ true) × IsAtEnd (k a)) ⊎ ((m a ≡ None) × MarksLast (k a))

-- one of them is
abbrev pub MarksOne : {Op : Type 0} {Answer : Op → Type 0} {M A : Type 0} → Prog Op Answer M A → Type 0
MarksOne (Ret a) = ⊥
MarksOne {Op} {Answer} (Do op m k) = (a : Answer op) → ((is_some (m a) ≡ true) × MarksNone (k a)) ⊎ ((m a ≡ None) × MarksOne (k a))

-- ---- the law

-- An operation that takes an inode's lock, or leaves a transaction, acts at its program's first step; the others do
-- at the last one. A claim alone acts between: when it has picked an inode, or found no place for one, the block goes
-- back after that.
abbrev pub ActsAt : (op : above.Op) → P (Handover (above.Answer op) Carry) → Type 0
ActsAt (Take n looking) p = MarksFirst p
ActsAt (StatFile fd) p = MarksFirst p
ActsAt (LockFile fd) p = MarksFirst p
ActsAt (LockOpen fd n) p = MarksFirst p
ActsAt Leave p = MarksFirst p
ActsAt (Claim inode_type) p = MarksOne p
ActsAt op p = MarksLast p

-- So it is with the program of each operation, whatever its steps are answered, on a disk that has inodes.
abbrev pub OperationsActFirstOrLast : Type 0
OperationsActFirstOrLast =
    (sizes : Super) → HasInodes sizes → (c : Carry) (op : above.Op) (m : above.Answer op → Option above.Mark)
    → ActsAt op (handlers sizes c op m)
