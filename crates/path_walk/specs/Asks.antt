-- What a call in code asks and hears, in the words of the machine of whole inodes.
use Rattle.std.specs.Prelude.{ℕ, Bool, true, false, List, [], ◌++◌, take, Option, Some, None}
use Rattle.path_walk.specs.Vocabulary.{option_map, Action, Cause, BadDescriptor, piece, Reply, CallAnswer, Call, Ret, Do, Op, Answer, P, file_for}
use Rattle.plain_tree.specs.declared.step.Action.TheVariants as steps
use Rattle.image_versions.specs.declared.version.Version.{Version}
use Rattle.path_walk.specs.Elements.{name_in, IsElement, IsInOne}
use Rattle.inode_machine.specs.Inodes as whole
use Rattle.tree_laws.specs.Moves as moves
use Rattle.inode_machine.specs.World as world
use Rattle.path_walk.specs.declared.asks.Claimed.{Claimed}
use Rattle.path_walk.specs.declared.asks.Claimed.TheVariants as claimed
use Rattle.path_walk.specs.declared.asks.Entered.{Entered}
use Rattle.path_walk.specs.declared.asks.Entered.TheVariants as entered
use Rattle.path_walk.specs.declared.asks.Locked.{Locked}
use Rattle.path_walk.specs.declared.asks.Locked.TheVariants as locked
use Rattle.path_walk.specs.declared.asks.Joined.{Joined}
use Rattle.path_walk.specs.declared.asks.Joined.TheVariants as joined
use Rattle.path_walk.specs.declared.asks.Wrote.{Wrote}
use Rattle.path_walk.specs.declared.asks.Wrote.TheVariants as wrote
use Rattle.path_walk.specs.declared.asks.Loan.{Loan}
use Rattle.path_walk.specs.declared.asks.Loan.TheVariants as loan
use Rattle.path_walk.specs.declared.asks.Query.{Query}
use Rattle.path_walk.specs.declared.asks.Query.TheVariants as query
use Rattle.path_walk.specs.declared.asks.Ask.{Ask}
use Rattle.path_walk.specs.declared.asks.Ask.TheVariants as ask
use Rattle.path_walk.specs.declared.asks.InodeType.{InodeType}
use Rattle.path_walk.specs.declared.asks.InodeType.TheVariants as inode_type
use Rattle.path_walk.specs.declared.asks.Face.{Face}
use Rattle.path_walk.specs.declared.asks.Sight.{Sight}
use Rattle.path_walk.specs.declared.asks.Heard.{Heard}
use Rattle.path_walk.specs.declared.asks.Heard.TheVariants as heard
use Rattle.path_walk.specs.declared.asks.Mark.{Mark}
use Rattle.path_walk.specs.declared.asks.Mark.TheVariants as mark

-- ---- what is asked, by a call with this path, or with these bytes

abbrev pub type_of : InodeType → whole.InodeType
type_of inode_type.Directory = whole.OfDirectory
type_of inode_type.File = whole.OfFile
type_of (inode_type.Device major) = whole.OfDevice major

abbrev pub query_in : List ℕ → Query → whole.Query
query_in path query.Nothing = whole.AtNothing
query_in path (query.Name e) = whole.AtName (name_in path e)
query_in path query.Entries = whole.AtEntries

abbrev pub op_in : List ℕ → Ask → Op
op_in path (ask.Take n q) = world.Take n (query_in path q)
op_in path (ask.UnlockInode n) = world.UnlockInode n
op_in path (ask.UpStart absolute) = world.UpStart absolute
op_in path (ask.Up n) = world.Up n
op_in path (ask.WalkDown n) = world.WalkDown n
op_in path (ask.Down n) = world.Down n
op_in path (ask.Free n) = world.Free n
op_in path (ask.Forget n) = world.Forget n
op_in path (ask.Store n count) = world.Store n count
op_in path (ask.Claim s) = world.Claim (type_of s)
op_in path (ask.Fill n d) = world.Fill n d
op_in path (ask.Enter d e n) = world.Enter d (name_in path e) n
op_in path (ask.Clear d e) = world.Clear d (name_in path e)
op_in path (ask.Empty n) = world.Empty n
op_in path ask.Slot = world.Slot
op_in path (ask.Install n flags s) = world.Install (file_for n flags) (type_of s)
op_in path (ask.LockFile fd) = world.LockFile fd
op_in path (ask.ReadFile fd n offset count) = world.ReadFile fd n offset count
op_in path (ask.CheckFile fd) = world.CheckFile fd
op_in path (ask.JoinFile fd) = world.JoinFile fd
op_in path (ask.LockOpen fd n) = world.LockOpen fd n
op_in path (ask.WriteFile fd n offset i) = world.WriteFile fd n offset (piece path i)
op_in path (ask.Shut fd) = world.Shut fd
op_in path (ask.Lend child from) = world.Lend child from
op_in path (ask.LendDirectory child) = world.LendDirectory child
op_in path (ask.Release child) = world.Release child
op_in path (ask.StatFile fd) = world.StatFile fd
op_in path (ask.Double fd) = world.Double fd
op_in path (ask.SetDirectory n) = world.SetDirectory n
op_in path ask.Join = world.Join
op_in path ask.Leave = world.Leave
op_in path ask.Say = world.Say

-- a name that is sought or entered is an element of the path
abbrev pub IsSought : Version → List ℕ → Query → Type 0
IsSought v path query.Nothing = Unit {0}
IsSought v path (query.Name e) = IsElement v path e
IsSought v path query.Entries = Unit {0}

-- .. and no bytes are read or written
abbrev pub IsNamed : Version → List ℕ → Ask → Type 0
IsNamed v path (ask.Take n q) = IsSought v path q
IsNamed v path (ask.Enter d e n) = IsElement v path e
IsNamed v path (ask.ReadFile fd n offset count) = ⊥
IsNamed v path (ask.WriteFile fd n offset i) = ⊥
IsNamed v path a = Unit {0}

-- of two texts, the first of which is this, such a name is in one
abbrev pub IsSoughtInOne : List ℕ → Query → Type 0
IsSoughtInOne first query.Nothing = Unit {0}
IsSoughtInOne first (query.Name e) = IsInOne first e
IsSoughtInOne first query.Entries = Unit {0}

abbrev pub AsksInOne : List ℕ → Ask → Type 0
AsksInOne first (ask.Take n q) = IsSoughtInOne first q
AsksInOne first (ask.Enter d e n) = IsInOne first e
AsksInOne first a = Unit {0}

-- one text is after the other
abbrev pub IsNamedInTwo : Version → List ℕ → List ℕ → Ask → Type 0
IsNamedInTwo v first second a = IsNamed v (first ++ second) a × AsksInOne first a

-- a name is sought at most
abbrev pub OnlySeeks : Ask → Type 0
OnlySeeks (ask.Enter d e n) = ⊥
OnlySeeks (ask.Clear d e) = ⊥
OnlySeeks a = Unit {0}

-- ---- what is heard

abbrev pub face_of : Face → whole.Face
face_of f = record { inode_type = type_of f.inode_type; count = f.count; size = f.size }

abbrev pub sight_of : Sight → whole.Sight
sight_of s = record { face = option_map face_of s.face; found = s.found; empty = s.empty }

-- what another answer is taken for
abbrev pub nothing_seen : whole.Sight
nothing_seen = record { face = None; found = None; empty = true }

abbrev pub sight_in : Heard → whole.Sight
sight_in (heard.Saw s) = sight_of s
sight_in x = nothing_seen

abbrev pub start_in : Heard → Option ℕ
start_in (heard.Start o) = o
start_in x = None

abbrev pub bool_in : Heard → Bool
bool_in (heard.Is b) = b
bool_in x = false

abbrev pub with_face : Option (ℕ × Face) → Option (ℕ × whole.Face)
with_face None = None
with_face (Some p) = Some (p.0, face_of p.1)

abbrev pub face_in_stat : Heard → Option (ℕ × whole.Face)
face_in_stat (heard.Stat o) = with_face o
face_in_stat x = None

abbrev pub doubled_in : Heard → Option (Option ℕ)
doubled_in (heard.Doubled o) = o
doubled_in x = None

abbrev pub claimed_of : Claimed → world.ClaimResult
claimed_of (claimed.New n) = world.New n
claimed_of claimed.NoInode = world.NoInode
claimed_of claimed.NoPlace = world.NoPlace

abbrev pub claimed_in : Heard → world.ClaimResult
claimed_in (heard.Claimed c) = claimed_of c
claimed_in x = world.NoInode

abbrev pub entered_of : Entered → world.EntryResult
entered_of entered.InPlace = world.InPlace
entered_of entered.NoBlock = world.NoBlock
entered_of entered.NoSlot = world.NoSlot

abbrev pub entered_in : Heard → world.EntryResult
entered_in (heard.Entered e) = entered_of e
entered_in x = world.NoBlock

abbrev pub locked_of : Locked → world.LockResult
locked_of (locked.Refused c) = world.NotLocked c
locked_of (locked.Locks n offset) = world.LocksIt n offset

abbrev pub locked_in : Heard → world.LockResult
locked_in (heard.Locked l) = locked_of l
locked_in x = world.LocksIt 0 0

abbrev pub checked_in : Heard → Option Cause
checked_in (heard.Checked o) = o
checked_in x = None

abbrev pub joined_of : Joined → world.JoinResult
joined_of (joined.Refused c) = world.NotJoined c
joined_of (joined.For n) = world.Joined n

abbrev pub joined_in : Heard → world.JoinResult
joined_in (heard.Joined j) = joined_of j
joined_in x = world.NotJoined BadDescriptor

abbrev pub at_in : Heard → ℕ × ℕ
at_in (heard.At n offset) = (n, offset)
at_in x = (0, 0)

abbrev pub wrote_of : Wrote → world.Wrote
wrote_of wrote.Whole = world.Whole
wrote_of (wrote.Refused c) = world.Refused c
wrote_of (wrote.Short k) = world.Short k

abbrev pub wrote_in : Heard → world.Wrote
wrote_in (heard.Wrote w) = wrote_of w
wrote_in x = world.Whole

abbrev pub shut_in : Heard → Option (Option ℕ)
shut_in (heard.Shut o) = o
shut_in x = None

abbrev pub loan_of : Loan → world.LoanResult
loan_of (loan.Lent i more) = world.Lent i more
loan_of (loan.Moved n) = world.Moved n

abbrev pub loan_in : Heard → world.LoanResult
loan_in (heard.Loan l) = loan_of l
loan_in x = world.Moved 0

abbrev pub count_in : Heard → ℕ
count_in (heard.Read count) = count
count_in x = 0

abbrev pub number_in : Heard → ℕ
number_in (heard.Old n) = n
number_in x = 0

-- an operation's answer; text: the call's buffer, with what is read at its front
abbrev pub answer_to : List ℕ → (op : Op) → Heard → Answer op
answer_to text (world.Take n looking) x = sight_in x
answer_to text (world.UnlockInode n) x = tt
answer_to text (world.UpStart absolute) x = start_in x
answer_to text (world.Up n) x = bool_in x
answer_to text (world.WalkDown n) x = bool_in x
answer_to text (world.Down n) x = bool_in x
answer_to text (world.Free n) x = tt
answer_to text (world.Forget n) x = tt
answer_to text (world.Claim s) x = claimed_in x
answer_to text (world.Store n count) x = tt
answer_to text (world.Fill n d) x = bool_in x
answer_to text (world.Enter d e n) x = entered_in x
answer_to text (world.Clear d e) x = tt
answer_to text (world.Empty n) x = tt
answer_to text world.Slot x = bool_in x
answer_to text (world.Install f s) x = start_in x
answer_to text (world.StatFile fd) x = face_in_stat x
answer_to text (world.LockFile fd) x = locked_in x
answer_to text (world.ReadFile fd n offset count) x = take (count_in x) text
answer_to text (world.CheckFile fd) x = checked_in x
answer_to text (world.JoinFile fd) x = joined_in x
answer_to text (world.LockOpen fd n) x = at_in x
answer_to text (world.WriteFile fd n offset bytes) x = wrote_in x
answer_to text (world.Double fd) x = doubled_in x
answer_to text (world.Shut fd) x = shut_in x
answer_to text (world.SetDirectory n) x = number_in x
answer_to text (world.Lend child from) x = loan_in x
answer_to text (world.LendDirectory child) x = number_in x
answer_to text (world.Release child) x = tt
answer_to text world.Join x = tt
answer_to text world.Leave x = tt
answer_to text world.Say x = tt

-- ---- how a program goes on

abbrev pub asks : {A : Type 0} → P A → Option Op
asks (Ret a) = None
asks (Do op m k) = Some op

-- after this answer
abbrev pub hears : {A : Type 0} → List ℕ → P A → Heard → P A
hears text (Ret a) x = Ret a
hears text (Do op m k) x = k (answer_to text op x)

-- the mark of its operation at this answer
abbrev pub mark_at : {A : Type 0} → P A → Heard → Option world.Mark
mark_at (Ret a) x = None
mark_at (Do op m k) x = m (answer_to [] op x)

-- a reply to the call
abbrev pub reply_to : Call → CallAnswer → Reply
reply_to call a = record { answer = a; call = call }

-- of a call that is stepped in its place, and whose answer is left in another when it has ended
abbrev pub stepped : P Reply → Call → CallAnswer → Bool → P Reply
stepped p call a false = p
stepped p call a true = Ret (reply_to call a)

-- ---- marks, of moves for this tree step; that of a write is for all its bytes

-- a piece of its bytes
abbrev pub piece_of : Action → ℕ → Action
piece_of (steps.WritePart fd bytes) i = steps.WritePart fd (piece bytes i)
piece_of s i = s

-- the first so many bytes of it
abbrev pub part_of_piece : Action → ℕ → ℕ → Action
part_of_piece (steps.WritePart fd bytes) i k = steps.WritePart fd (take k (piece bytes i))
part_of_piece s i k = s

abbrev pub mark_in : Action → Mark → world.Mark
mark_in s mark.Begin = world.Makes (moves.Begin s 0)
mark_in s (mark.Look new) = world.Makes (moves.Look new)
mark_in s mark.GiveUpWalk = world.Makes (moves.GiveUpWalk s)
mark_in s mark.Own = world.Makes (moves.Own s 0)
mark_in s (mark.Truncate fd) = world.Makes (moves.Own (steps.Truncate fd) 0)
mark_in s mark.Bump = world.Makes (moves.Own steps.Bump 0)
mark_in s mark.Unbump = world.Makes (moves.Own steps.Unbump 0)
mark_in s (mark.Piece i) = world.Makes (moves.Own (piece_of s i) 0)
mark_in s (mark.PartOfPiece i k) = world.Spoils (part_of_piece s i k)
mark_in s (mark.Frees n) = world.Frees n
mark_in s (mark.Orphans n) = world.Orphans n
mark_in s mark.Mends = world.Mends
mark_in s mark.Fills = world.Fills

abbrev pub marked_as : Action → Option Mark → Option world.Mark
marked_as s o = option_map (mark_in s) o
