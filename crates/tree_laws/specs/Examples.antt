-- Runs: one in which each call finishes, and three in which a walk is lost: twice its directory is removed under it.
use Rattle.std.specs.Prelude.{◌≡◌, ℕ, true, List, [], ◌∷◌, ◌++◌, Some, None, codes}
use Rattle.image_versions.specs.declared.version.Version.TheVariants.{One}
use Rattle.tree_laws.specs.Vocabulary.{Answer, Fd, Count, Stated, Finished, Refused, NoEntry, AFile, Call, OpenCall as Open, ReadCall as Read, Write, Link, UnlinkCall as Unlink, MkdirCall as Mkdir, ChdirCall as Chdir, DupCall as Dup, FstatCall as Fstat, CloseCall as Close, InheritCall as Inherit, Action, Open as OpenStep, Read as ReadStep, WritePart, Find, Bump, Enter, Unlink as UnlinkStep, Mkdir as MkdirStep, Chdir as ChdirStep, Dup as DupStep, Close as CloseStep, Fstat as FstatStep, Inherit as InheritStep, StepAnswer, Opened, Bytes, Status, NewFd, Done, Failed, Placed, tree_of, fresh}
use Rattle.tree_laws.specs.Moves.{Move}
use Rattle.tree_laws.specs.Moves.Move.{Begin, Look, GiveUpWalk, Own}
use Rattle.tree_laws.specs.Runs.{World, Event, Runs, opened}
use Rattle.tree_laws.specs.Runs.Event.{Starts, Steps}

-- from a fresh tree of 200 numbers these events are a run that keeps this list
abbrev pub IsRun : List Event → List Placed → Type 0
IsRun events list = (w : World) × Runs One (opened (tree_of (fresh One 200))) events w × (w.history.list ≡ list)

abbrev pub goes : ℕ → Move → Event
goes h v = Steps h (Some v) None

-- the call replies in the event of its last move
abbrev pub ends : ℕ → Move → Call → Answer → Event
ends h v c a = Steps h (Some v) (Some (record { answer = a; call = c }))

-- the call replies in an event without a move
abbrev pub returns : ℕ → Call → Answer → Event
returns h c a = Steps h None (Some (record { answer = a; call = c }))

-- at an event, a call's step with its answer
abbrev pub placed : ℕ → ℕ → ℕ → ℕ → Action → StepAnswer → Placed
placed event call h new s a = record { event = event; call = call; step = record { hart = h; new = new; action = s }; answer = a }

-- A walk of one element from the root; if its step makes a node, that node has this number.
abbrev pub walks : ℕ → Action → ℕ → List Event
walks h s new = goes h (Begin s 0) ∷ goes h (Look new) ∷ []

-- A walk of two elements.
abbrev pub walks_through : ℕ → Action → ℕ → List Event
walks_through h s new = goes h (Begin s 0) ∷ goes h (Look 0) ∷ goes h (Look new) ∷ []

-- for reading and writing; the file is made
abbrev pub both : ℕ
both = 514

-- hart 0 makes and opens /a, as node 2
abbrev pub open_a : Call
open_a = Open (codes "/a") both

abbrev pub opens_a : List Event
opens_a = Starts 0 open_a ∷ walks 0 (OpenStep (codes "/a") both) 2 ++ returns 0 open_a (Fd 0) ∷ []

abbrev pub opened_a : Placed
opened_a = placed 2 0 0 2 (OpenStep (codes "/a") both) (Opened 0 0 true)

abbrev pub OpenFinishes : Type 0
OpenFinishes = IsRun opens_a (opened_a ∷ [])

abbrev pub reads : List Event
reads = opens_a ++ Starts 0 (Read 0 (7 ∷ 7 ∷ [])) ∷ ends 0 (Own (ReadStep 0 2) 0) (Read 0 (7 ∷ 7 ∷ [])) (Count 0) ∷ []

abbrev pub ReadFinishes : Type 0
ReadFinishes = IsRun reads (opened_a ∷ placed 5 1 0 0 (ReadStep 0 2) (Bytes []) ∷ [])

abbrev pub writes : List Event
writes = opens_a ++ Starts 0 (Write 0 (codes "A")) ∷ ends 0 (Own (WritePart 0 (codes "A")) 0) (Write 0 (codes "A")) (Count 1) ∷ []

abbrev pub WriteFinishes : Type 0
WriteFinishes = IsRun writes (opened_a ∷ placed 5 1 0 0 (WritePart 0 (codes "A")) Done ∷ [])

abbrev pub link_a : Call
link_a = Link (codes "/a") (codes "/b")

abbrev pub links : List Event
links = opens_a ++ Starts 0 link_a ∷ walks 0 (Find (codes "/a")) 0 ++ goes 0 (Own Bump 0) ∷ walks 0 (Enter (codes "/b")) 0
    ++ returns 0 link_a Finished ∷ []

abbrev pub LinkFinishes : Type 0
LinkFinishes = IsRun links
    (opened_a ∷ placed 6 1 0 0 (Find (codes "/a")) Done ∷ placed 7 1 0 0 Bump Done ∷ placed 9 1 0 0 (Enter (codes "/b")) Done ∷ [])

abbrev pub unlinks : List Event
unlinks = opens_a ++ Starts 0 (Unlink (codes "/a")) ∷ walks 0 (UnlinkStep (codes "/a")) 0 ++ returns 0 (Unlink (codes "/a")) Finished ∷ []

abbrev pub UnlinkFinishes : Type 0
UnlinkFinishes = IsRun unlinks (opened_a ∷ placed 6 1 0 0 (UnlinkStep (codes "/a")) Done ∷ [])

abbrev pub makes : List Event
makes = Starts 0 (Mkdir (codes "/d")) ∷ walks 0 (MkdirStep (codes "/d")) 2 ++ returns 0 (Mkdir (codes "/d")) Finished ∷ []

abbrev pub MkdirFinishes : Type 0
MkdirFinishes = IsRun makes (placed 2 0 0 2 (MkdirStep (codes "/d")) Done ∷ [])

abbrev pub changes : List Event
changes = Starts 0 (Chdir (codes "/.")) ∷ walks 0 (ChdirStep (codes "/.")) 0 ++ returns 0 (Chdir (codes "/.")) Finished ∷ []

abbrev pub ChdirFinishes : Type 0
ChdirFinishes = IsRun changes (placed 2 0 0 0 (ChdirStep (codes "/.")) Done ∷ [])

abbrev pub doubles : List Event
doubles = opens_a ++ Starts 0 (Dup 0) ∷ ends 0 (Own (DupStep 0) 0) (Dup 0) (Fd 1) ∷ []

abbrev pub DupFinishes : Type 0
DupFinishes = IsRun doubles (opened_a ∷ placed 5 1 0 0 (DupStep 0) (NewFd 1) ∷ [])

abbrev pub asks : List Event
asks = opens_a ++ Starts 0 (Fstat 0)
    ∷ ends 0 (Own (FstatStep 0) 0) (Fstat 0) (Stated (record { device = 1; inode = 2; kind = AFile; nlink = 1; size = 0 })) ∷ []

abbrev pub FstatFinishes : Type 0
FstatFinishes =
    IsRun asks (opened_a ∷ placed 5 1 0 0 (FstatStep 0) (Status (record { device = 1; inode = 2; kind = AFile; nlink = 1; size = 0 })) ∷ [])

abbrev pub closes : List Event
closes = opens_a ++ Starts 0 (Close 0) ∷ ends 0 (Own (CloseStep 0) 0) (Close 0) Finished ∷ []

abbrev pub CloseFinishes : Type 0
CloseFinishes = IsRun closes (opened_a ∷ placed 5 1 0 0 (CloseStep 0) Done ∷ [])

abbrev pub inherits : List Event
inherits = Starts 0 (Inherit 1) ∷ ends 0 (Own (InheritStep 1) 0) (Inherit 1) Finished ∷ []

abbrev pub InheritFinishes : Type 0
InheritFinishes = IsRun inherits (placed 1 0 0 0 (InheritStep 1) Done ∷ [])

-- Two harts.

abbrev pub mkdir_d : Call
mkdir_d = Mkdir (codes "/d")

abbrev pub make_f : Call
make_f = Open (codes "/d/f") 512

abbrev pub open_f : Call
open_f = Open (codes "/d/f") 0

abbrev pub unlink_f : Call
unlink_f = Unlink (codes "/d/f")

abbrev pub unlink_d : Call
unlink_d = Unlink (codes "/d")

-- hart 1 makes /d, as node d, and /d/f, as node f
abbrev pub makes_both : ℕ → ℕ → List Event
makes_both d f = Starts 1 mkdir_d ∷ walks 1 (MkdirStep (codes "/d")) d ++ returns 1 mkdir_d Finished ∷ Starts 1 make_f
    ∷ walks_through 1 (OpenStep (codes "/d/f") 512) f ++ returns 1 make_f (Fd 0) ∷ []

-- hart 0 walks to /d, node 2; hart 1 removes /d/f and /d under it
abbrev pub removes_both : List Event
removes_both = Starts 1 (Close 0) ∷ ends 1 (Own (CloseStep 0) 0) (Close 0) Finished
    ∷ Starts 0 open_f ∷ walks 0 (OpenStep (codes "/d/f") 0) 0
    ++ Starts 1 unlink_f ∷ walks_through 1 (UnlinkStep (codes "/d/f")) 0 ++ returns 1 unlink_f Finished
    ∷ Starts 1 unlink_d ∷ walks 1 (UnlinkStep (codes "/d")) 0 ++ returns 1 unlink_d Finished ∷ []

abbrev pub gives_up : Event
gives_up = ends 0 (GiveUpWalk (OpenStep (codes "/d/f") 0)) open_f (Refused NoEntry)

-- hart 0's open fails at the unlink that kills its directory, just after it
abbrev pub until_removed : List Placed
until_removed = placed 2 0 1 2 (MkdirStep (codes "/d")) Done
    ∷ placed 7 1 1 3 (OpenStep (codes "/d/f") 512) (Opened 0 0 true)
    ∷ placed 10 2 1 0 (CloseStep 0) Done
    ∷ placed 17 4 1 0 (UnlinkStep (codes "/d/f")) Done
    ∷ placed 21 5 1 0 (UnlinkStep (codes "/d")) Done
    ∷ placed 21 3 0 0 (OpenStep (codes "/d/f") 0) (Failed NoEntry)
    ∷ []

abbrev pub removed_under : List Event
removed_under = makes_both 2 3 ++ removes_both ++ gives_up ∷ []

abbrev pub WalkerFails : Type 0
WalkerFails = IsRun removed_under until_removed

-- The names are made again before hart 0 looks, as nodes 3 and 4. Its open fails all the same, at the same event.
abbrev pub made_again : List Event
made_again = makes_both 2 3 ++ removes_both ++ makes_both 3 4 ++ gives_up ∷ []

abbrev pub WalkerStaysFailed : Type 0
WalkerStaysFailed = IsRun made_again
    (until_removed ++ placed 25 6 1 3 (MkdirStep (codes "/d")) Done ∷ placed 30 7 1 4 (OpenStep (codes "/d/f") 512) (Opened 0 0 true) ∷ [])

-- A walk that reaches a file is lost there at once, and fails there.

abbrev pub open_below_a : Call
open_below_a = Open (codes "/a/b") 0

abbrev pub opens_below_a : List Event
opens_below_a = opens_a ++ Starts 0 open_below_a ∷ walks 0 (OpenStep (codes "/a/b") 0) 0
    ++ ends 0 (GiveUpWalk (OpenStep (codes "/a/b") 0)) open_below_a (Refused NoEntry) ∷ []

abbrev pub WalkerFailsAtAFile : Type 0
WalkerFailsAtAFile = IsRun opens_below_a (opened_a ∷ placed 6 1 0 0 (OpenStep (codes "/a/b") 0) (Failed NoEntry) ∷ [])
