-- Why a call isn't started.
use Rattle.std.specs.Prelude.{◌≡◌, ℕ, Bool, true, List, length, Option, Some, None, Result, Ok, Err, if◌then◌else◌, nat_lt, ◌==◌, ◌||◌}
use Rattle.hart_core.specs.Vocabulary.{hart_count, list_any, or_else, Call, OpenCall as Open, Read, Write, Link, Unlink, Mkdir, Chdir, Dup, Fstat, Close, Inherit, OutcomeOf, WasStarted as Started, WasRefused as Refused, Kind, Reply, are_bytes, has_file, reserved}
use Rattle.hart_core.specs.declared.starts.StartRefused.{StartRefused}
use Rattle.hart_core.specs.declared.starts.StartRefused.TheVariants as start
use Rattle.hart_core.specs.declared.starts.StartRefused.TheVariants.{PathTooLong, ZeroInPath, TooLong}
use Rattle.inode_machine.specs.Theory as calls
use Rattle.hart_core.specs.Harts.{HartsOf, busy_in, children_in}

-- bytes of the longest path
abbrev pub longest_path : ℕ
longest_path = 127

-- the most bytes that one call reads or writes
abbrev pub longest_part : ℕ
longest_part = 524288

-- a path is too long, or else has a zero byte
abbrev pub path_fault : List ℕ → Option StartRefused
path_fault path =
    if nat_lt longest_path (length path) then Some PathTooLong else (if list_any (λ b. b == 0) path then Some ZeroInPath else None)

abbrev pub part_fault : List ℕ → Option StartRefused
part_fault bytes = if nat_lt longest_part (length bytes) then Some TooLong else None

-- the first of a call's faults
abbrev pub fault_of : Call → Option StartRefused
fault_of (Open path flags) = path_fault path
fault_of (Read fd buffer) = part_fault buffer
fault_of (Write fd bytes) = part_fault bytes
fault_of (Link old new) = or_else (path_fault old) (path_fault new)
fault_of (Unlink path) = path_fault path
fault_of (Mkdir path) = path_fault path
fault_of (Chdir path) = path_fault path
fault_of (Dup fd) = None
fault_of (Fstat fd) = None
fault_of (Close fd) = None
fault_of (Inherit child) = None

-- each path is of bytes, and so is what is written, as all are that code has
abbrev pub IsOfBytes : Call → Type 0
IsOfBytes (Open path flags) = are_bytes path ≡ true
IsOfBytes (Read fd buffer) = Unit {0}
IsOfBytes (Write fd bytes) = are_bytes bytes ≡ true
IsOfBytes (Link old new) = (are_bytes old ≡ true) × (are_bytes new ≡ true)
IsOfBytes (Unlink path) = are_bytes path ≡ true
IsOfBytes (Mkdir path) = are_bytes path ≡ true
IsOfBytes (Chdir path) = are_bytes path ≡ true
IsOfBytes (Dup fd) = Unit {0}
IsOfBytes (Fstat fd) = Unit {0}
IsOfBytes (Close fd) = Unit {0}
IsOfBytes (Inherit child) = Unit {0}

module _ {D : Type 0} (w : HartsOf D) where
  -- a call under way reserves the hart
  abbrev pub is_child : ℕ → Bool
  is_child g = reserved (busy_in w.calls) (children_in w.children) g

  -- why a hart can't be the child of hart h's inherit: there is no such hart; it is h, has a call, or is another one's child; it has
  -- descriptors
  abbrev pub child_refusal : ℕ → ℕ → Option StartRefused
  child_refusal h child =
      if nat_lt child hart_count
      then (if (child == h) || (busy_in w.calls child || is_child child) then Some start.Busy
      else (if has_file child w.core.tables then Some start.NotEmptyHart else None)) else Some start.NoSuchHart

  abbrev pub others_refusal : ℕ → Call → Option StartRefused
  others_refusal h (Inherit child) = child_refusal h child
  others_refusal h call = None

  -- Why hart h's call isn't started. There is no such hart; it has a call, or is the child of another one's; the call
  -- has a fault; or, last, its child can't be one.
  abbrev pub refusal_of : ℕ → Call → Option StartRefused
  refusal_of h call = if nat_lt h hart_count
      then (if busy_in w.calls h || is_child h then Some start.Busy else or_else (fault_of call) (others_refusal h call))
      else Some start.NoSuchHart

-- the same reason in the words of the calls
abbrev pub reason_of : StartRefused → calls.Refusal
reason_of start.Busy = calls.Busy
reason_of start.PathTooLong = calls.PathTooLong
reason_of start.ZeroInPath = calls.ZeroInPath
reason_of start.TooLong = calls.TooLong
reason_of start.NoSuchHart = calls.NoSuchHart
reason_of start.NotEmptyHart = calls.NotEmptyHart

-- the outcome of a start; a refused one hands the call back
abbrev pub start_outcome : Result (Unit {0}) (Call × StartRefused) → OutcomeOf Kind Reply calls.Refusal
start_outcome (Ok done) = Started
start_outcome (Err e) = Refused (reason_of e.1)
