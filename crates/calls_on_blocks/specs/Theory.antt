-- The calls that are served, as a theory over the machine below: what every list of events makes of it.
use Rattle.std.specs.Prelude.{ℕ, Bool, true, false, ◌&&◌, ◌||◌, ◌==◌, nat_lt, List, length, Option, Some, None, is_some, if◌then◌else◌}
use Rattle.calls_on_blocks.specs.Vocabulary.{Super, Version, Call, OpenCall as Open, Read, Write, Link, Unlink, Mkdir, Chdir, Dup, Fstat, Close, Inherit, put, any_below, hart_count, descriptor_count, or_else, Theory, Began, Refuses, Begins, Code, Starts, lowered_calls, Part, code_part, TablesState, file_named, Kind, is_at, Refusal, NoSuchHart, Busy, PathTooLong, ZeroInPath, NotEmptyHart, NotCovered, calls_that, is_covered, path_limit, has_zero, are_bytes, asks_wrong, handlers}
use Rattle.fs_machine.specs.Steps as steps
use Rattle.fs_machine.specs.Premises as premises
use Rattle.calls_on_blocks.specs.Layer.{SharedState, exec_shared, layer, shared_of}

-- the calls of which each operation's program is known to act at one moment: of write those of bytes, as all are that code has
abbrev pub is_served : Call → Bool
is_served (Open path flags) = true
is_served (Read fd buffer) = true
is_served (Write fd bytes) = are_bytes bytes
is_served (Link old new) = true
is_served (Unlink path) = true
is_served (Mkdir path) = true
is_served (Chdir path) = true
is_served (Dup fd) = true
is_served (Fstat fd) = true
is_served (Close fd) = true
is_served (Inherit child) = true

-- and nothing is wrong with the call itself
abbrev pub serves : Call → Bool
serves call = is_covered call && is_served call

abbrev pub served_calls : Version → Theory
served_calls v = calls_that v serves

-- ---- starts

-- the first fault of a call itself: a path's length, then its zero bytes, of each path in turn; or the count of bytes
-- to read or write
abbrev pub path_fault : List ℕ → Option Refusal
path_fault path = if nat_lt path_limit (length path) then Some PathTooLong else (if has_zero path then Some ZeroInPath else None)

abbrev pub fault_of : Call → Option Refusal
fault_of (Open path flags) = path_fault path
fault_of (Read fd buffer) = asks_wrong (length buffer)
fault_of (Write fd bytes) = asks_wrong (length bytes)
fault_of (Link old new) = or_else (path_fault old) (path_fault new)
fault_of (Unlink path) = path_fault path
fault_of (Mkdir path) = path_fault path
fault_of (Chdir path) = path_fault path
fault_of (Dup fd) = None
fault_of (Fstat fd) = None
fault_of (Close fd) = None
fault_of (Inherit child) = None

-- and last that it isn't served
abbrev pub refusal_for : Call → Option Refusal
refusal_for call = or_else (fault_of call) (if serves call then None else Some NotCovered)

-- ---- a child

-- whom a call reserves
abbrev pub child_of : Call → Option ℕ
child_of (Inherit child) = Some child
child_of call = None

-- a call under way reserves the hart
abbrev pub reserved : (ℕ → Bool) → (ℕ → Option ℕ) → ℕ → Bool
reserved busy children g = any_below hart_count (λ c. busy c && is_at (children c) g)

-- the hart has an open file
abbrev pub has_file : ℕ → TablesState → Bool
has_file h t = any_below descriptor_count (λ fd. is_some (file_named h fd t))

-- why a hart can't be the child: there is no such hart; it is the caller, has a call, or is another one's child; it has descriptors
abbrev pub child_refusal : ℕ → ℕ → (ℕ → Bool) → SharedState → Option Refusal
child_refusal h child busy s =
    if nat_lt child hart_count
    then (if (child == h) || (busy child || reserved busy s.children child) then Some Busy
    else (if has_file child s.state.tables then Some NotEmptyHart else None)) else Some NoSuchHart

abbrev pub others_refusal : ℕ → Call → (ℕ → Bool) → SharedState → Option Refusal
others_refusal h (Inherit child) busy s = child_refusal h child busy s
others_refusal h call busy s = None

-- ---- the result of a start

-- why hart h's call doesn't begin: a child starts nothing; then what is wrong with the call, and last what the other harts do
abbrev pub start_refusal : ℕ → Call → (ℕ → Bool) → SharedState → Option Refusal
start_refusal h call busy s =
    or_else (if reserved busy s.children h then Some Busy else None) (or_else (refusal_for call) (others_refusal h call busy s))

abbrev pub begun_by : {S : Type 0} → S → Option Refusal → Began Refusal S
begun_by s None = Begins s
begun_by s (Some why) = Refuses why

abbrev pub if_hart : {S : Type 0} → Bool → Began Refusal S → Began Refusal S
if_hart true b = b
if_hart false b = Refuses NoSuchHart

-- There are eight harts. t is what a start leaves that isn't refused.
abbrev pub begin_in : {S : Type 0} → ℕ → Call → (ℕ → Bool) → SharedState → S → Began Refusal S
begin_in h call busy s t = if_hart (nat_lt h hart_count) (begun_by t (start_refusal h call busy s))

-- it says whom its call reserves, and changes nothing else
abbrev pub begins : (sizes : Super) → Starts (served_calls sizes.version) (layer sizes)
begins sizes h call busy r = begin_in h call busy (shared_of r) (record r { children = put r.children h (child_of call) })

abbrev pub block_calls : Super → Theory
block_calls sizes = lowered_calls (served_calls sizes.version) (layer sizes) (handlers sizes) (begins sizes)

-- ---- the code's part of it: all that harts share

abbrev pub shared_part : (sizes : Super) → Part (served_calls sizes.version) (layer sizes)
shared_part sizes = record {
  Shared = SharedState;
  of = shared_of;
  exec = exec_shared;
  may = λ h op s. premises.May h op s.state;
  honest = λ h op s x. premises.Honest h op s.state x;
  begin = λ h call busy s. begin_in h call busy s (record s { children = put s.children h (child_of call) });
}

abbrev pub block_code : (sizes : Super) → Code (block_calls sizes)
block_code sizes = code_part (served_calls sizes.version) (layer sizes) (handlers sizes) (begins sizes) (shared_part sizes) Kind steps.kind_of
