-- How far a call has come: what of its steps so far decides which step comes next, and the reply.
use Rattle.std.specs.Prelude.{ℕ, ◌+◌, Bool, true, false, List, [], ◌∷◌, length, ◌==◌, nat_lt, if◌then◌else◌, Option, Some, None}
use Rattle.tree_histories.specs.Vocabulary.{Answer, Cause, Reply, Call, Open, Read, Write, Link, Unlink, Mkdir, Chdir, Dup, Fstat, Close, Inherit, Action, OpenStep, TruncateStep, ReadStep, WritePartStep, FindStep, BumpStep, EnterStep, UnbumpStep, UnlinkStep, MkdirStep, ChdirStep, DupStep, FstatStep, CloseStep, InheritStep, StepAnswer, Opened, Done, Failed, has, empty_it, is_nothing, Act, cause_of, counted, in_buffer, linked, piece, piece_count, plain_answer, next_where}
use Rattle.tree_histories.specs.declared.stand.Stand.{Stand}

abbrev pub was_done : StepAnswer → Bool
was_done Done = true
was_done a = false

abbrev pub was_failed : StepAnswer → Bool
was_failed (Failed k) = true
was_failed a = false

-- the descriptor under which a file was opened
abbrev pub opened_file : StepAnswer → Option ℕ
opened_file (Opened fd id is_file) = if is_file then Some fd else None
opened_file a = None

abbrev pub first_of : Option Cause → Option Cause → Option Cause
first_of None k = k
first_of (Some j) k = Some j

abbrev pub start : Stand
start = record { count = 0; done = false; failed = false; file = None; cause = None }

abbrev pub after : Stand → StepAnswer → Stand
after s a =
    record { count = s.count + 1; done = was_done a; failed = was_failed a; file = opened_file a; cause = first_of s.cause (cause_of a) }

unfoldable pub stand_from : Stand → List Act → Stand
stand_from s [] = s
stand_from s (a ∷ acts) = stand_from (after s a.answer) acts

abbrev pub stand_of : List Act → Stand
stand_of acts = stand_from start acts

-- What comes next of each call.

abbrev pub truncate_from : ℕ → Option ℕ → Option Action
truncate_from flags None = None
truncate_from flags (Some fd) = if has flags empty_it then Some (TruncateStep fd) else None

abbrev pub open_from : List ℕ → ℕ → Stand → Option Action
open_from path flags s = if s.count == 0 then Some (OpenStep path flags) else if s.count == 1 then truncate_from flags s.file else None

abbrev pub write_from : ℕ → List ℕ → Stand → Option Action
write_from fd bytes s =
    if s.failed then None else if nat_lt s.count (piece_count bytes) then Some (WritePartStep fd (piece bytes s.count)) else None

abbrev pub link_from : List ℕ → List ℕ → Stand → Option Action
link_from old new s =
    if s.count == 0 then Some (FindStep old)
    else if s.count == 1 then next_where s.done BumpStep
    else if s.count == 2 then next_where s.done (EnterStep new)
    else if s.count == 3 then next_where s.failed UnbumpStep
    else None

-- the one step of a call that is one step
abbrev pub only_step : Call → Option Action
only_step (Open path flags) = None
only_step (Write fd bytes) = None
only_step (Link old new) = None
only_step (Read fd buffer) = Some (ReadStep fd (length buffer))
only_step (Unlink path) = Some (UnlinkStep path)
only_step (Mkdir path) = Some (MkdirStep path)
only_step (Chdir path) = Some (ChdirStep path)
only_step (Dup fd) = Some (DupStep fd)
only_step (Fstat fd) = Some (FstatStep fd)
only_step (Close fd) = Some (CloseStep fd)
only_step (Inherit child) = Some (InheritStep child)

abbrev pub next_from : Call → Stand → Option Action
next_from (Open path flags) s = open_from path flags s
next_from (Write fd bytes) s = write_from fd bytes s
next_from (Link old new) s = link_from old new s
next_from c s = if s.count == 0 then only_step c else None

-- The reply, by the first cause and the first answer.

abbrev pub answer_at : Call → Option Cause → StepAnswer → Answer
answer_at (Write fd bytes) cause a = counted cause (length bytes)
answer_at (Link old new) cause a = linked cause
answer_at c cause a = plain_answer a

abbrev pub handed_at : Call → StepAnswer → Call
handed_at (Read fd buffer) a = Read fd (in_buffer buffer a)
handed_at c a = c

abbrev pub reply_at : Call → Option Cause → StepAnswer → Reply
reply_at c cause a = record { answer = answer_at c cause a; call = handed_at c a }

-- with the step from one `Stand` to the other the reply is known: of most calls with the first step
abbrev pub is_told : Call → Stand → Stand → Bool
is_told (Write fd bytes) s s' = is_nothing (next_from (Write fd bytes) s')
is_told (Link old new) s s' = is_nothing (next_from (Link old new) s')
is_told c s s' = s.count == 0
