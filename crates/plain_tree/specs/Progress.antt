-- How far a call is, and which step comes next.
use Rattle.std.specs.Prelude.{ℕ, Bool, true, false, List, [], ◌∷◌, length, ◌==◌, nat_lt, if◌then◌else◌, Option, Some, None}
use Rattle.plain_tree.specs.declared.call.Call.{Call}
use Rattle.plain_tree.specs.declared.call.Call.TheVariants.{Open, Read, Write, Link, Unlink, Mkdir, Chdir, Dup, Fstat, Close, Inherit}
use Rattle.plain_tree.specs.declared.step.Action.{Action}
use Rattle.plain_tree.specs.declared.step.Action.TheVariants.{Open as OpenStep, Truncate as TruncateStep, Read as ReadStep, WritePart as WritePartStep, Find as FindStep, Bump as BumpStep, Enter as EnterStep, Unbump as UnbumpStep, Unlink as UnlinkStep, Mkdir as MkdirStep, Chdir as ChdirStep, Dup as DupStep, Fstat as FstatStep, Close as CloseStep, Inherit as InheritStep}
use Rattle.plain_tree.specs.declared.step.StepAnswer.{StepAnswer}
use Rattle.plain_tree.specs.declared.step.StepAnswer.TheVariants.{Opened, Done, Failed}
use Rattle.plain_tree.specs.declared.progress.Last.{Last}
use Rattle.plain_tree.specs.declared.progress.Last.TheVariants.{Nothing, Done as WasDone, Failed as HasFailed, File, Other}
use Rattle.plain_tree.specs.declared.progress.Progress.{Progress}
use Rattle.plain_tree.specs.Basics.{has, empty_it}
use Rattle.plain_tree.specs.Calls.{Act, piece, piece_count}

-- what an answer says to the next step
abbrev pub said : StepAnswer → Last
said (Opened fd id is_file) = if is_file then File fd else Other
said Done = WasDone
said (Failed k) = HasFailed
said a = Other

unfoldable pub last_of : List Act → Last
last_of [] = Nothing
last_of (a ∷ []) = said a.answer
last_of (a ∷ b ∷ bs) = last_of (b ∷ bs)

abbrev pub progress_of : List Act → Progress
progress_of acts = record { count = length acts; last = last_of acts }

abbrev pub is_done : Last → Bool
is_done WasDone = true
is_done last = false

abbrev pub has_failed : Last → Bool
has_failed HasFailed = true
has_failed last = false

-- The next step of each call.

abbrev pub truncate_next : ℕ → Last → Option Action
truncate_next flags (File fd) = if has flags empty_it then Some (TruncateStep fd) else None
truncate_next flags last = None

abbrev pub open_next : List ℕ → ℕ → Progress → Option Action
open_next path flags p = if p.count == 0 then Some (OpenStep path flags) else if p.count == 1 then truncate_next flags p.last else None

abbrev pub write_next : ℕ → List ℕ → Progress → Option Action
write_next fd bytes p =
    if has_failed p.last then None else if nat_lt p.count (piece_count bytes) then Some (WritePartStep fd (piece bytes p.count)) else None

abbrev pub next_where : Bool → Action → Option Action
next_where b s = if b then Some s else None

abbrev pub link_next : List ℕ → List ℕ → Progress → Option Action
link_next old new p =
    if p.count == 0 then Some (FindStep old)
    else if p.count == 1 then next_where (is_done p.last) BumpStep
    else if p.count == 2 then next_where (is_done p.last) (EnterStep new)
    else if p.count == 3 then next_where (has_failed p.last) UnbumpStep
    else None

abbrev pub only_next : Action → Progress → Option Action
only_next s p = next_where (p.count == 0) s

-- the next step of a call with this progress
abbrev pub next_at : Call → Progress → Option Action
next_at (Open path flags) p = open_next path flags p
next_at (Read fd buffer) p = only_next (ReadStep fd (length buffer)) p
next_at (Write fd bytes) p = write_next fd bytes p
next_at (Link old new) p = link_next old new p
next_at (Unlink path) p = only_next (UnlinkStep path) p
next_at (Mkdir path) p = only_next (MkdirStep path) p
next_at (Chdir path) p = only_next (ChdirStep path) p
next_at (Dup fd) p = only_next (DupStep fd) p
next_at (Fstat fd) p = only_next (FstatStep fd) p
next_at (Close fd) p = only_next (CloseStep fd) p
next_at (Inherit child) p = only_next (InheritStep child) p
