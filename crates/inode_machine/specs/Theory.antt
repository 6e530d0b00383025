-- The calls that are shown right, as a theory: what every list of events makes of them.
use Rattle.std.specs.Prelude.{◌≡◌, ◌≢◌, ◌⊎◌, ◌+◌, Option, Some, ℕ, Bool, true, false, ◌&&◌, ◌||◌, not, nat_lt, ◌==◌, List, [], ◌∷◌, length, if◌then◌else◌, None}
use Rattle.image_versions.specs.declared.version.Version.{Version}
use Rattle.inode_machine.specs.Vocabulary.{Reply, Call, Open, Read, Write, Link, Unlink, Mkdir, Chdir, Dup, Fstat, Close, Inherit, Tree, put, any_below, hart_count, descriptor_count, one_if, sum_below, IsWellFormed, Theory, Began, Refuses, Begins, Event, AllHonest, run, fresh, IsExplained, IsWholeCall, OpenFile, Node}
use Rattle.inode_machine.specs.Basics.{IsPlayedSoFar, Mine, Desk, World, Outside, stage_of, InodeType, OfDirectory, type_of_kind, is_nothing, serving}
use Rattle.inode_machine.specs.Rules.{Inv, Idle, machine, asked_limit}
use Rattle.inode_machine.specs.Programs.{program, limit}

-- why a start is refused: there is no such hart; it has a call, or takes part in another's; a path is too long, or has
-- a zero. Or too much is to be read or written; a child has descriptors; or the call is none of these
pub data Refusal : Type 0 where
  NoSuchHart : Refusal
  Busy : Refusal
  PathTooLong : Refusal
  ZeroInPath : Refusal
  TooLong : Refusal
  NotEmptyHart : Refusal
  NotCovered : Refusal

abbrev pub on_descriptors : Call → Bool
on_descriptors (Open path flags) = false
on_descriptors (Read fd buffer) = not (nat_lt asked_limit (length buffer))
on_descriptors (Write fd bytes) = true
on_descriptors (Link old new) = false
on_descriptors (Unlink path) = false
on_descriptors (Mkdir path) = false
on_descriptors (Chdir path) = false
on_descriptors (Dup fd) = true
on_descriptors (Fstat fd) = true
on_descriptors (Close fd) = true
on_descriptors (Inherit child) = false

abbrev pub only_if : Bool → Refusal → Began Refusal World → Began Refusal World
only_if true why b = b
only_if false why b = Refuses why

-- from now on this hart gets the descriptors of the other, and starts nothing
abbrev pub serving_world : World → ℕ → ℕ → World
serving_world w h child = record w {
  desks = put (put w.desks h (record (w.desks h) { lent = serving child None })) child
      (record (w.desks child) { lender = Some h });
}

abbrev pub has_descriptor : Desk → Bool
has_descriptor d = any_below descriptor_count (λ i. not (is_nothing (d.fds i)))

-- a child is another hart that has no call, no lender, and no descriptors
abbrev pub begin_inherit : ℕ → ℕ → (ℕ → Bool) → World → Began Refusal World
begin_inherit h child busy w =
    only_if (nat_lt child hart_count) NoSuchHart
    (only_if (not (child == h) && (not (busy child) && is_nothing (w.desks child).lender)) Busy
    (only_if (not (has_descriptor (w.desks child))) NotEmptyHart
    (Begins (serving_world w h child))))

abbrev pub begin_call : ℕ → Call → (ℕ → Bool) → World → Began Refusal World
begin_call h (Open path flags) busy w = Begins w
begin_call h (Read fd buffer) busy w = Begins w
begin_call h (Write fd bytes) busy w = Begins w
begin_call h (Link old new) busy w = Begins w
begin_call h (Unlink path) busy w = Begins w
begin_call h (Mkdir path) busy w = Begins w
begin_call h (Chdir path) busy w = Begins w
begin_call h (Dup fd) busy w = Begins w
begin_call h (Fstat fd) busy w = Begins w
begin_call h (Close fd) busy w = Begins w
begin_call h (Inherit child) busy w = begin_inherit h child busy w

abbrev pub path_limit : ℕ
path_limit = 127

abbrev pub has_zero : List ℕ → Bool
has_zero [] = false
has_zero (b ∷ bs) = (b == 0) || has_zero bs

abbrev pub are_bytes : List ℕ → Bool
are_bytes [] = true
are_bytes (b ∷ bs) = nat_lt b 256 && are_bytes bs

-- what is wrong with a path; one that isn't of bytes is none that a call can have
abbrev pub path_wrong : List ℕ → Option Refusal
path_wrong path = if nat_lt path_limit (length path) then Some PathTooLong
    else (if has_zero path then Some ZeroInPath else (if are_bytes path then None else Some NotCovered))

abbrev pub asks_wrong : ℕ → Option Refusal
asks_wrong n = if nat_lt asked_limit n then Some TooLong else None

abbrev pub first_wrong : Option Refusal → Option Refusal → Option Refusal
first_wrong None b = b
first_wrong (Some why) b = Some why

-- what is wrong with a call, by itself: the first cause
abbrev pub call_wrong : Call → Option Refusal
call_wrong (Open path flags) = path_wrong path
call_wrong (Read fd buffer) = asks_wrong (length buffer)
call_wrong (Write fd bytes) = asks_wrong (length bytes)
call_wrong (Link old new) = first_wrong (path_wrong old) (path_wrong new)
call_wrong (Unlink path) = path_wrong path
call_wrong (Mkdir path) = path_wrong path
call_wrong (Chdir path) = path_wrong path
call_wrong (Dup fd) = None
call_wrong (Fstat fd) = None
call_wrong (Close fd) = None
call_wrong (Inherit child) = None

abbrev pub why_not : Option Refusal → Refusal
why_not None = NotCovered
why_not (Some why) = why

abbrev pub begin_if : Bool → ℕ → Call → (ℕ → Bool) → World → Began Refusal World
begin_if covered h call busy w = only_if (nat_lt h hart_count) NoSuchHart
    (only_if (is_nothing (w.desks h).lender) Busy (only_if covered (why_not (call_wrong call)) (begin_call h call busy w)))

-- the machine with those calls alone that are of this kind
abbrev pub calls_that : Version → (Call → Bool) → Theory
calls_that version kind =
    record {
      M = machine version;
      Call = Call;
      Reply = Reply;
      Refusal = Refusal;
      start = λ h call busy w. begin_if (kind call) h call busy w;
      busy = Busy;
      program = program version;
      Written = IsWholeCall;
      WrittenSoFar = λ call es. IsPlayedSoFar call [] es;
      limit = limit version;
    }

-- Every list of events, of any harts, from a world that holds and in which every hart rests, is explained by one list
-- of tree steps.
abbrev pub AreExplained : Version → (Call → Bool) → Type 0
AreExplained version kind = (w : World) (events : List (Event Call Outside)) → Inv w → ((h : ℕ) → Idle h w)
    → AllHonest (calls_that version kind) events (fresh (calls_that version kind) w)
    → IsExplained (calls_that version kind) (stage_of w) (run (calls_that version kind) events (fresh (calls_that version kind) w))

abbrev pub descriptor_calls : Version → Theory
descriptor_calls version = calls_that version on_descriptors

-- all eleven, if nothing is wrong with the call itself
abbrev pub is_covered : Call → Bool
is_covered call = is_nothing (call_wrong call)

abbrev pub covered_calls : Version → Theory
covered_calls version = calls_that version is_covered

abbrev pub CallsAreExplained : Version → Type 0
CallsAreExplained version = AreExplained version is_covered

-- Whatever has happened, also if a step found no room: the tree before it settles is well formed. What no hart keeps
-- is on disk as the tree has it, and so is what is kept by a hart in no transaction.
pub record StaysInOrder (w : World) : Type 0 where
  pub well : IsWellFormed w.all
  pub whole : (i : ℕ) → w.keeper i ≡ None → w.disk i ≡ w.all.nodes i
  pub quiet : (i h : ℕ) → w.keeper i ≡ Some h → (w.desks h).joined ≡ false → w.disk i ≡ w.all.nodes i

abbrev pub WorldsStayInOrder : Version → Type 0
WorldsStayInOrder version = (w : World) (events : List (Event Call Outside)) → Inv w → ((h : ℕ) → Idle h w)
    → AllHonest (covered_calls version) events (fresh (covered_calls version) w)
    → StaysInOrder (run (covered_calls version) events (fresh (covered_calls version) w)).world

-- A world at rest on a tree without open files, orphans included.

abbrev pub resting : Tree → ℕ → Mine
resting t h = record { refs = λ i. one_if (t.cwd h == i); walk = None; pending = None }

abbrev pub at_rest : Tree → World
at_rest t = record {
  disk = t.nodes;
  lock = λ i. None;
  refs = λ i. sum_below hart_count (λ g. (resting t g).refs i);
  slots = λ i. 0;
  files = λ k. None;
  desks = λ h. record {
    fds = λ i. None;
    hand = None;
    joined = false;
    directory = t.cwd h;
    lent = λ i. None;
    lender = None;
    opening = None;
    left = None;
    noted = None;
    full = false;
  };
  ids = λ k. 0;
  clean = true;
  harts = resting t;
  keeper = λ i. None;
  alone = λ i. false;
  next = 0;
  all = t;
}

abbrev pub WorldsRest : Type 0
WorldsRest = (t : Tree) → IsWellFormed t → ((id : ℕ) → t.files id ≡ None) → ((h : ℕ) → t.holds h ≡ None) → ((h i : ℕ) → t.fds h i ≡ None)
    → Inv (at_rest t) × ((h : ℕ) → Idle h (at_rest t))

-- The same, with one open file: hart 0's descriptor 0 has it.

abbrev pub open_at_rest : Tree → OpenFile → InodeType → World
open_at_rest t f inode_type = record (at_rest t) {
  files = put (λ k. None) 0 (Some (record { file = f; inode_type = inode_type; references = 1 }));
  desks = put (at_rest t).desks 0 (record ((at_rest t).desks 0) { fds = put (λ i. None) 0 (Some 0) });
  slots = λ n. one_if (f.number == n);
  refs = λ i. one_if (f.number == i) + (at_rest t).refs i;
  next = 1;
}

-- a tree whose one open file has id 0, is open by hart 0's descriptor 0, and is no directory that is open to write
pub record HasOneOpen (t : Tree) (f : OpenFile) (v : Node) : Type 0 where
  pub file : t.files 0 ≡ Some f
  pub files : (id : ℕ) → id ≢ 0 → t.files id ≡ None
  pub fd : t.fds 0 0 ≡ Some 0
  pub fds : (h i : ℕ) → (h ≢ 0) ⊎ (i ≢ 0) → t.fds h i ≡ None
  pub holds : (h : ℕ) → t.holds h ≡ None
  pub node : t.nodes f.number ≡ Some v
  pub written : f.writable ≡ true → type_of_kind v.kind ≢ OfDirectory

abbrev pub WorldsWithAFileRest : Type 0
WorldsWithAFileRest = (t : Tree) (f : OpenFile) (v : Node) → IsWellFormed t → HasOneOpen t f v
    → Inv (open_at_rest t f (type_of_kind v.kind)) × ((h : ℕ) → Idle h (open_at_rest t f (type_of_kind v.kind)))
