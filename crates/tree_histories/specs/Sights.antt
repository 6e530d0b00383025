-- What the kept tree shows of an inode whose lock is taken, and the mark of an operation when it acts.
use Rattle.std.specs.Prelude.{◌≡◌, ℕ, ◌*◌, ◌<◌, ◌^◌, Bool, true, false, List, ◌++◌, length, Option, Some, None}
use Rattle.tree_histories.specs.Vocabulary.{Version, dirent_len_of, NodeKind, Directory, File, Device, Node, Tree, seen_in, Op, Take, StatFile, LockFile, LockOpen, asks, mark_at, marked_as, query_in, sight_in, sight_of, IsSought, IsSoughtInOne, Heard, Mark, Query, Sight, WholeFits, action_in, whole_of}
use Rattle.path_walk.specs.declared.asks.Heard.TheVariants as heard
use Rattle.path_walk.specs.declared.asks.Locked.TheVariants as locked
use Rattle.tree_histories.specs.Keeping.{Under}

-- the bytes of a directory's slots are counted by a u64
abbrev pub FewSlots : Version → NodeKind → Type 0
FewSlots version (Directory slots) = dirent_len_of version * length slots < 2 ^ 64
FewSlots version (File bytes) = Unit {0}
FewSlots version (Device major minor size) = Unit {0}

abbrev pub FewSlotsIn : Version → Option Node → Type 0
FewSlotsIn version None = Unit {0}
FewSlotsIn version (Some v) = FewSlots version v.kind

-- it is seen as the machine of whole inodes sees it; the name that is looked for is in one of two paths
abbrev pub ShowsSo : Version → Tree → ℕ → Query → List ℕ → List ℕ → Sight → Type 0
ShowsSo version t n looking path second s = n < 2 ^ 16 → FewSlotsIn version (t.nodes n) → IsSought version (path ++ second) looking
    → IsSoughtInOne path looking → sight_of s ≡ seen_in version n (query_in (path ++ second) looking) (t.nodes n)

-- the answer of this operation, if it takes an inode's lock: what is seen of the inode, or that it is locked
abbrev pub SeenFor : Version → Tree → Option Op → Heard → Type 0
SeenFor version t (Some (Take n looking)) x =
    n < 2 ^ 16 → FewSlotsIn version (t.nodes n) → sight_in x ≡ seen_in version n looking (t.nodes n)
SeenFor version t (Some (LockFile fd)) x = x ≡ heard.Locked (locked.Locks 0 0)
SeenFor version t o x = Unit {0}

-- an operation that takes a lock acts in its first step; the others act in their last one
abbrev pub acts_first : Op → Bool
acts_first (Take n looking) = true
acts_first (StatFile fd) = true
acts_first (LockFile fd) = true
acts_first (LockOpen fd n) = true
acts_first op = false

-- this is the mark of the call's operation at this answer
abbrev pub MarksAt : Version → Under → Heard → Option Mark → Type 0
MarksAt version u x o = (listed : List ℕ) → mark_at (whole_of version listed u.whole) x ≡ marked_as (action_in u.whole) o

-- the mark of this operation in a step that heard this, or nothing yet; what heard nothing yet is answered by what the tree shows
abbrev pub MarksIn : Version → Tree → Under → Option Op → (first begun : Bool) → Option Heard → Option Mark → Type 0
MarksIn version t u op true true heard o = o ≡ None
MarksIn version t u op true false (Some x) o = MarksAt version u x o
MarksIn version t u op true false None o = (x : Heard) × SeenFor version t op x × MarksAt version u x o
MarksIn version t u op false begun (Some x) o = MarksAt version u x o
MarksIn version t u op false begun None o = o ≡ None

-- of the hart's call, if it has one
abbrev pub MarksBy : Version → Tree → Option Under → Option Heard → Option Mark → Type 0
MarksBy version t None heard o = o ≡ None
MarksBy version t (Some u) heard o = (listed : List ℕ) (op : Op) → WholeFits version listed u.whole
    → asks (whole_of version listed u.whole) ≡ Some op
    → MarksIn version t u (Some op) (acts_first op) u.has_begun heard o
