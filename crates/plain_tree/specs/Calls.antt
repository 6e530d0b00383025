-- The written sequence of each call: what comes next after the steps that acted, and the reply.
use Rattle.std.specs.Prelude.{◌≡◌, ℕ, ◌+◌, ◌-◌, ◌*◌, ◌/◌, Bool, true, false, ◌&&◌, ◌||◌, List, [], ◌∷◌, ◌++◌, take, drop, length, ◌==◌, nat_lt, if◌then◌else◌, Option, Some, None}
use Rattle.plain_tree.specs.declared.answer.Cause.{Cause}
use Rattle.plain_tree.specs.declared.answer.Answer.{Answer}
use Rattle.plain_tree.specs.declared.answer.Answer.TheVariants.{Fd, Count, Stat as Stated, Done as Finished, Failed as Refused, Full as WasFull}
use Rattle.plain_tree.specs.declared.answer.Reply.{Reply}
use Rattle.plain_tree.specs.declared.call.Call.{Call}
use Rattle.plain_tree.specs.declared.call.Call.TheVariants.{Open, Read, Write, Link, Unlink, Mkdir, Chdir, Dup, Fstat, Close, Inherit}
use Rattle.plain_tree.specs.declared.step.Action.{Action}
use Rattle.plain_tree.specs.declared.step.Action.TheVariants.{Open as OpenStep, Truncate as TruncateStep, Read as ReadStep, WritePart as WritePartStep, Find as FindStep, Bump as BumpStep, Enter as EnterStep, Unbump as UnbumpStep, Unlink as UnlinkStep, Mkdir as MkdirStep, Chdir as ChdirStep, Dup as DupStep, Fstat as FstatStep, Close as CloseStep, Inherit as InheritStep}
use Rattle.plain_tree.specs.declared.step.StepAnswer.{StepAnswer}
use Rattle.plain_tree.specs.declared.step.StepAnswer.TheVariants.{Opened, Bytes, Stat as Status, Fd as NewFd, Done, Failed, Full as NoRoom}
use Rattle.plain_tree.specs.Basics.{climbs, has, empty_it, piece_len}

-- what acted, with its answer
pub record Act : Type 0 where
  pub step : Action
  pub answer : StepAnswer

abbrev pub cause_of : StepAnswer → Option Cause
cause_of (Failed k) = Some k
cause_of a = None

-- the cause with which the last step was refused
unfoldable pub last_cause : List Act → Option Cause
last_cause [] = None
last_cause (a ∷ []) = cause_of a.answer
last_cause (a ∷ b ∷ bs) = last_cause (b ∷ bs)

-- the number of pieces of a write: one for each 3072 bytes begun, one for none
abbrev pub piece_count : List ℕ → ℕ
piece_count bytes = if length bytes == 0 then 1 else (length bytes + (piece_len - 1)) / piece_len

abbrev pub piece : List ℕ → ℕ → List ℕ
piece bytes i = take piece_len (drop (piece_len * i) bytes)

abbrev pub next_piece : ℕ → List ℕ → List Act → Option Cause → Option Action
next_piece fd bytes acts (Some k) = None
next_piece fd bytes acts None =
    if nat_lt (length acts) (piece_count bytes) then Some (WritePartStep fd (piece bytes (length acts))) else None

abbrev pub once : Action → List Act → Option Action
once s [] = Some s
once s (a ∷ acts) = None

-- only a file is emptied
abbrev pub to_truncate : ℕ → StepAnswer → Option Action
to_truncate flags (Opened fd id is_file) = if has flags empty_it && is_file then Some (TruncateStep fd) else None
to_truncate flags a = None

abbrev pub next_open : List ℕ → ℕ → List Act → Option Action
next_open path flags [] = Some (OpenStep path flags)
next_open path flags (a ∷ []) = to_truncate flags a.answer
next_open path flags (a ∷ b ∷ bs) = None

abbrev pub if_done : StepAnswer → Action → Option Action
if_done Done s = Some s
if_done a s = None

abbrev pub if_failed : StepAnswer → Action → Option Action
if_failed (Failed k) s = Some s
if_failed a s = None

abbrev pub next_link : List ℕ → List ℕ → List Act → Option Action
next_link old new [] = Some (FindStep old)
next_link old new (a ∷ []) = if_done a.answer BumpStep
next_link old new (a ∷ b ∷ []) = if_done b.answer (EnterStep new)
next_link old new (a ∷ b ∷ c ∷ []) = if_failed c.answer UnbumpStep
next_link old new (a ∷ b ∷ c ∷ d ∷ ds) = None

-- the step that comes after these, if the call goes on
unfoldable pub next_of : Call → List Act → Option Action
next_of (Open path flags) acts = next_open path flags acts
next_of (Read fd buffer) acts = once (ReadStep fd (length buffer)) acts
next_of (Write fd bytes) acts = next_piece fd bytes acts (last_cause acts)
next_of (Link old new) acts = next_link old new acts
next_of (Unlink path) acts = once (UnlinkStep path) acts
next_of (Mkdir path) acts = once (MkdirStep path) acts
next_of (Chdir path) acts = once (ChdirStep path) acts
next_of (Dup fd) acts = once (DupStep fd) acts
next_of (Fstat fd) acts = once (FstatStep fd) acts
next_of (Close fd) acts = once (CloseStep fd) acts
next_of (Inherit child) acts = once (InheritStep child) acts

-- the cause of the first refused step
unfoldable pub first_cause : List Act → Option Cause
first_cause [] = None
first_cause (a ∷ acts) = elim (cause_of a.answer) [ Some k ↦ Some k | None ↦ first_cause acts ]

-- the buffer, with the bytes read at its front
abbrev pub in_buffer : List ℕ → StepAnswer → List ℕ
in_buffer buffer (Bytes b) = b ++ drop (length b) buffer
in_buffer buffer a = buffer

abbrev pub first_answer : List Act → StepAnswer
first_answer [] = Done
first_answer (a ∷ acts) = a.answer

abbrev pub plain_answer : StepAnswer → Answer
plain_answer (Opened fd id f) = Fd fd
plain_answer (Bytes b) = Count (length b)
plain_answer (Status s) = Stated s
plain_answer (NewFd fd) = Fd fd
plain_answer Done = Finished
plain_answer (Failed k) = Refused k
plain_answer (NoRoom f) = WasFull f

abbrev pub counted : Option Cause → ℕ → Answer
counted (Some k) n = Refused k
counted None n = Count n

abbrev pub linked : Option Cause → Answer
linked (Some k) = Refused k
linked None = Finished

-- the reply of a call with no further step
unfoldable pub reply_of : Call → List Act → Reply
reply_of (Open path flags) acts = record { answer = plain_answer (first_answer acts); call = Open path flags }
reply_of (Read fd buffer) acts = record { answer = plain_answer (first_answer acts); call = Read fd (in_buffer buffer (first_answer acts)) }
reply_of (Write fd bytes) acts = record { answer = counted (first_cause acts) (length bytes); call = Write fd bytes }
reply_of (Link old new) acts = record { answer = linked (first_cause acts); call = Link old new }
reply_of (Unlink path) acts = record { answer = plain_answer (first_answer acts); call = Unlink path }
reply_of (Mkdir path) acts = record { answer = plain_answer (first_answer acts); call = Mkdir path }
reply_of (Chdir path) acts = record { answer = plain_answer (first_answer acts); call = Chdir path }
reply_of (Dup fd) acts = record { answer = plain_answer (first_answer acts); call = Dup fd }
reply_of (Fstat fd) acts = record { answer = plain_answer (first_answer acts); call = Fstat fd }
reply_of (Close fd) acts = record { answer = plain_answer (first_answer acts); call = Close fd }
reply_of (Inherit child) acts = record { answer = plain_answer (first_answer acts); call = Inherit child }

-- acts, after the ones before, are a beginning of the call's written sequence
unfoldable pub Follows : Call → List Act → List Act → Type 0
Follows c before [] = Unit {0}
Follows c before (a ∷ acts) = (next_of c before ≡ Some a.step) × Follows c (before ++ a ∷ []) acts

abbrev pub IsBeginning : Call → List Act → Type 0
IsBeginning c acts = Follows c [] acts

-- no step answered that there is no room
unfoldable pub had_room : List Act → Bool
had_room [] = true
had_room (a ∷ acts) = elim a.answer [ NoRoom f ↦ false | _ ↦ had_room acts ]

-- A call that answered for want of room has no whole sequence.
abbrev pub IsWhole : Call → List Act → Reply → Type 0
IsWhole c acts r = Follows c [] acts × (next_of c acts ≡ None) × (r ≡ reply_of c acts) × (had_room acts ≡ true)

-- a path of the call has the element ".."
abbrev pub call_climbs : Call → Bool
call_climbs (Open path flags) = climbs path
call_climbs (Link old new) = climbs old || climbs new
call_climbs (Unlink path) = climbs path
call_climbs (Mkdir path) = climbs path
call_climbs (Chdir path) = climbs path
call_climbs c = false
