-- Programs that every layer uses. They are silent: nothing is marked in them.
use Rattle.std.specs.Prelude.{ℕ, zero, suc, List, Bool, true, false, Option, Some, None}
use Rattle.fs_machine.specs.Vocabulary.{AfterLeave, Free, Commits, Prog, Ret, Do, once, unmarked}
use Rattle.fs_machine.specs.Steps.{Op, Answer, Leave, Get, Read, Commit}

-- a block's buffer is in hand, with these bytes where it is valid; else they are read
abbrev pub read_unless : {M : Type 0} → ℕ → Option (List ℕ) → Prog Op Answer M (List ℕ)
read_unless b (Some bytes) = Ret bytes
read_unless b None = once (Read b) unmarked

-- a block's buffer is taken, and valid
abbrev pub fetch : {M : Type 0} → ℕ → Prog Op Answer M (List ℕ)
fetch b = Do (Get b) unmarked (read_unless b)

-- a commit's writes, at most so many
abbrev pub commit_unless : {M : Type 0} → Prog Op Answer M (Unit {0}) → Bool → Prog Op Answer M (Unit {0})
commit_unless more true = Ret tt
commit_unless more false = more

abbrev pub commits : {M : Type 0} → ℕ → Prog Op Answer M (Unit {0})
commits zero = Ret tt
commits (suc n) = Do Commit unmarked (commit_unless (commits n))

-- the most writes of a commit: of 30 blocks twice, and the head twice
abbrev pub most_writes : ℕ
most_writes = 62

abbrev pub after_leave : {M : Type 0} → AfterLeave → Prog Op Answer M (Unit {0})
after_leave Free = Ret tt
after_leave Commits = commits most_writes

-- the transaction is left, with the commit if one begins
abbrev pub finish : {M : Type 0} → Prog Op Answer M (Unit {0})
finish = Do Leave unmarked after_leave
