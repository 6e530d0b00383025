-- Runs in which calls finish, from a fresh tree.
use Rattle.std.specs.Prelude.{◌≡◌, ℕ, zero, suc, true, false, List, [], ◌∷◌, ◌++◌, replicate, Some, codes}
use Rattle.image_versions.specs.declared.version.Version.{Version}
use Rattle.image_versions.specs.declared.version.Version.TheVariants.{One, Two}
use Rattle.plain_tree.specs.declared.answer.Answer.TheVariants as answers
use Rattle.inode_machine.specs.Vocabulary.{Cause, NoEntry, Exists, IsDirectory, TooManyLinks, Blocks, Descriptors, DiskInodes, DirectorySlots, Reply, Call, Directory, File, node_or, with_nodes, Tree, put, tree_of, count_limit, fresh_tree, EventOutcome, Event, Start, Step, Started, Refused, WasIdle, DidWait, DidRun, DidEnd, DidStop, WasStopped, FinishedCall, State, fresh, outcomes, run}
use Rattle.plain_tree.specs.declared.answer.NodeType.TheVariants as types
use Rattle.plain_tree.specs.declared.call.Call.TheVariants as calls
use Rattle.inode_machine.specs.Basics.{Outside, Room, RoomFor, Picks, slot_limit, with_entry}
use Rattle.inode_machine.specs.Theory.{at_rest, covered_calls, Refusal, NoSuchHart, Busy, NotEmptyHart, PathTooLong, ZeroInPath}

abbrev pub first : State (covered_calls One)
first = fresh (covered_calls One) (at_rest (tree_of (fresh_tree One 10)))

-- so many steps of a hart, with room for all
unfoldable pub steps : ℕ → ℕ → List (Event Call Outside)
steps h zero = []
steps h (suc n) = Step h Room ∷ steps h n

-- a call, and so many steps of its hart
abbrev pub makes : ℕ → Call → ℕ → List (Event Call Outside)
makes h call n = Start h call ∷ steps h n

abbrev pub replies : (version : Version) → List (FinishedCall (covered_calls version)) → List Reply
replies version [] = []
replies version (f ∷ fs) = f.reply ∷ replies version fs

-- these replies were given, the newest first, and no step found no room
abbrev pub Finishes : List (Event Call Outside) → List Reply → Type 0
Finishes events rs =
    (replies One (run (covered_calls One) events first).finished ≡ rs) × ((run (covered_calls One) events first).world.clean ≡ true)

abbrev pub done : Call → Reply
done c = record { answer = answers.Done; call = c }

-- The root is opened for reading.

abbrev pub open_root : Call
open_root = calls.Open (codes "/") 0

abbrev pub opened_root : Reply
opened_root = record { answer = answers.Fd 0; call = open_root }

abbrev pub opens : List (Event Call Outside)
opens = makes 0 open_root 8

abbrev pub OpenFinishes : Type 0
OpenFinishes = Finishes opens (opened_root ∷ [])

abbrev pub StatFinishes : Type 0
StatFinishes = Finishes (opens ++ makes 0 (calls.Fstat 0) 3)
    (record {
      answer = answers.Stat (record { device = 1; inode = 1; kind = types.Directory; nlink = 1; size = 1024 });
      call = calls.Fstat 0;
    } ∷ opened_root ∷ [])

-- the first entry's number
abbrev pub ReadFinishes : Type 0
ReadFinishes = Finishes (opens ++ makes 0 (calls.Read 0 (7 ∷ 7 ∷ [])) 3)
    (record { answer = answers.Count 2; call = calls.Read 0 (1 ∷ 0 ∷ []) } ∷ opened_root ∷ [])

abbrev pub doubled : Reply
doubled = record { answer = answers.Fd 1; call = calls.Dup 0 }

abbrev pub DupFinishes : Type 0
DupFinishes = Finishes (opens ++ makes 0 (calls.Dup 0) 2) (doubled ∷ opened_root ∷ [])

-- one of two descriptors, and the last one, with which the open file goes
abbrev pub CloseFinishes : Type 0
CloseFinishes = Finishes (opens ++ makes 0 (calls.Dup 0) 2 ++ makes 0 (calls.Close 0) 2 ++ makes 0 (calls.Close 1) 5)
    (done (calls.Close 1) ∷ done (calls.Close 0) ∷ doubled ∷ opened_root ∷ [])

-- A directory is made, as inode 2.

abbrev pub make_d : Call
make_d = calls.Mkdir (codes "/d")

abbrev pub makes_d : List (Event Call Outside)
makes_d = makes 0 make_d 5 ++ Step 0 (Picks 2) ∷ steps 0 11

abbrev pub MkdirFinishes : Type 0
MkdirFinishes = Finishes makes_d (done make_d ∷ [])

abbrev pub ChdirFinishes : Type 0
ChdirFinishes = Finishes (makes_d ++ makes 0 (calls.Chdir (codes "/d")) 11) (done (calls.Chdir (codes "/d")) ∷ done make_d ∷ [])

-- it is freed with its last reference
abbrev pub UnlinkFinishes : Type 0
UnlinkFinishes = Finishes (makes_d ++ makes 0 (calls.Unlink (codes "/d")) 19) (done (calls.Unlink (codes "/d")) ∷ done make_d ∷ [])

-- A file is made, as inode 2, for reading and writing, and written to.

abbrev pub make_a : Call
make_a = calls.Open (codes "/a") 514

abbrev pub made_a : Reply
made_a = record { answer = answers.Fd 0; call = make_a }

abbrev pub makes_a : List (Event Call Outside)
makes_a = makes 0 make_a 5 ++ Step 0 (Picks 2) ∷ steps 0 10

abbrev pub CreateFinishes : Type 0
CreateFinishes = Finishes makes_a (made_a ∷ [])

abbrev pub WriteFinishes : Type 0
WriteFinishes = Finishes (makes_a ++ makes 0 (calls.Write 0 (codes "A")) 5)
    (record { answer = answers.Count 1; call = calls.Write 0 (codes "A") } ∷ made_a ∷ [])

-- A file is linked: it has two names then.

abbrev pub link_ab : Call
link_ab = calls.Link (codes "/a") (codes "/b")

abbrev pub links_ab : List (Event Call Outside)
links_ab = makes_a ++ makes 0 link_ab 19

abbrev pub LinkFinishes : Type 0
LinkFinishes = Finishes (links_ab ++ makes 0 (calls.Fstat 0) 3)
    (record { answer = answers.Stat (record { device = 1; inode = 2; kind = types.File; nlink = 2; size = 0 }); call = calls.Fstat 0 }
    ∷ done link_ab ∷ made_a ∷ [])

abbrev pub refused : Call → Cause → Reply
refused c k = record { answer = answers.Failed k; call = c }

-- the file has one link again
abbrev pub one_link : Reply
one_link = record { answer = answers.Stat (record { device = 1; inode = 2; kind = types.File; nlink = 1; size = 0 }); call = calls.Fstat 0 }

-- a call that is refused once the count is raised, of so many steps
abbrev pub LinkRefused : List ℕ → Cause → ℕ → Type 0
LinkRefused new k n = Finishes (makes_a ++ makes 0 (calls.Link (codes "/a") new) n ++ makes 0 (calls.Fstat 0) 3)
    (one_link ∷ refused (calls.Link (codes "/a") new) k ∷ made_a ∷ [])

-- the new name is there already; its directory isn't; its path has no last name
abbrev pub LinkToTaken : Type 0
LinkToTaken = LinkRefused (codes "/a") Exists 21

abbrev pub LinkBelowNothing : Type 0
LinkBelowNothing = LinkRefused (codes "/x/b") NoEntry 19

abbrev pub LinkToNoName : Type 0
LinkToNoName = LinkRefused (codes "/") NoEntry 15

-- links of a missing file, and of a directory
abbrev pub LinkOfNothing : Type 0
LinkOfNothing = Finishes (makes 0 (calls.Link (codes "/x") (codes "/b")) 7) (refused (calls.Link (codes "/x") (codes "/b")) NoEntry ∷ [])

abbrev pub LinkOfDirectory : Type 0
LinkOfDirectory =
    Finishes (makes 0 (calls.Link (codes "/") (codes "/b")) 7) (refused (calls.Link (codes "/") (codes "/b")) IsDirectory ∷ [])

-- Hart 0 hands the open root on: both read on from one offset, and the child starts calls again.
abbrev pub inherits : List (Event Call Outside)
inherits = opens ++ makes 0 (calls.Inherit 1) 6

abbrev pub read_by : List ℕ → Reply
read_by bytes = record { answer = answers.Count 2; call = calls.Read 0 bytes }

abbrev pub InheritFinishes : Type 0
InheritFinishes = Finishes (inherits ++ makes 0 (calls.Read 0 (7 ∷ 7 ∷ [])) 3 ++ makes 1 (calls.Read 0 (7 ∷ 7 ∷ [])) 3)
    (read_by (46 ∷ 0 ∷ []) ∷ read_by (1 ∷ 0 ∷ []) ∷ done (calls.Inherit 1) ∷ opened_root ∷ [])

-- Without descriptors the directory alone is handed on: the child opens it.
abbrev pub open_here : Call
open_here = calls.Open [] 0

abbrev pub InheritMoves : Type 0
InheritMoves =
    Finishes (makes_d ++ makes 0 (calls.Chdir (codes "/d")) 11 ++ makes 0 (calls.Inherit 1) 5 ++ makes 1 open_here 8
    ++ makes 1 (calls.Fstat 0) 3)
    (record { answer = answers.Stat (record { device = 1; inode = 2; kind = types.Directory; nlink = 1; size = 32 }); call = calls.Fstat 0 }
    ∷ record { answer = answers.Fd 0; call = open_here } ∷ done (calls.Inherit 1) ∷ done (calls.Chdir (codes "/d")) ∷ done make_d ∷ [])

-- If the child was the last one in a removed directory, that is freed.
abbrev pub InheritFrees : Type 0
InheritFrees =
    Finishes (makes_d ++ makes 1 (calls.Chdir (codes "/d")) 11 ++ makes 0 (calls.Unlink (codes "/d")) 16 ++ makes 0 (calls.Inherit 1) 8)
    (done (calls.Inherit 1) ∷ done (calls.Unlink (codes "/d")) ∷ done (calls.Chdir (codes "/d")) ∷ done make_d ∷ [])

-- Starts that are refused: of no hart; of a child that is none, or is the caller, or has descriptors. Of a path that
-- is too long, or has a zero. Of a child while another hands its own to it, and of it by a third one; of a child that
-- has a call.
abbrev pub refusals : List (EventOutcome (covered_calls One)) → List Refusal
refusals [] = []
refusals (Refused why ∷ cs) = why ∷ refusals cs
refusals (Started ∷ cs) = refusals cs
refusals (WasIdle ∷ cs) = refusals cs
refusals (DidWait ∷ cs) = refusals cs
refusals (DidRun did ∷ cs) = refusals cs
refusals (DidEnd reply ∷ cs) = refusals cs
refusals (DidStop ∷ cs) = refusals cs
refusals (WasStopped ∷ cs) = refusals cs

-- 128 bytes
abbrev pub long_path : List ℕ
long_path =
    codes "/aaaaaaaaaaaaaaaaaaaaaaaaaaaaaaaaaaaaaaaaaaaaaaaaaaaaaaaaaaaaaaaaaaaaaaaaaaaaaaaaaaaaaaaaaaaaaaaaaaaaaaaaaaaaaaaaaaaaaaaaaaaaaaa"

abbrev pub refused_starts : List (Event Call Outside)
refused_starts = Start 8 (calls.Dup 0) ∷ Start 1 (calls.Inherit 8) ∷ Start 1 (calls.Inherit 1) ∷ Start 1 (calls.Inherit 0)
    ∷ Start 1 (calls.Chdir long_path) ∷ Start 1 (calls.Link (codes "/a") (47 ∷ 0 ∷ [])) ∷ Start 0 (calls.Inherit 1) ∷ Start 1 (calls.Dup 0)
    ∷ Start 2 (calls.Inherit 1) ∷ Start 2 (calls.Inherit 0) ∷ []

abbrev pub StartsRefused : Type 0
StartsRefused = refusals (outcomes (covered_calls One) (opens ++ refused_starts) first)
    ≡ NoSuchHart ∷ NoSuchHart ∷ Busy ∷ NotEmptyHart ∷ PathTooLong ∷ ZeroInPath ∷ Busy ∷ Busy ∷ Busy ∷ []

-- Two harts: hart 1 walks to the directory, hart 0 removes it under it, and hart 1 frees it at its call's end.

abbrev pub walk_on : Call
walk_on = calls.Chdir (codes "/d/x")

abbrev pub removed_under : List (Event Call Outside)
removed_under = makes_d ++ makes 1 walk_on 6 ++ makes 0 (calls.Unlink (codes "/d")) 16 ++ steps 1 11

abbrev pub WalkerFails : Type 0
WalkerFails = Finishes removed_under
    (record { answer = answers.Failed NoEntry; call = walk_on } ∷ done (calls.Unlink (codes "/d")) ∷ done make_d ∷ [])

-- No room is found: no inode is free; no block is left for a new directory's entries, and its inode is freed again.

abbrev pub NoRoom : List (Event Call Outside) → List Reply → Type 0
NoRoom events rs =
    (replies One (run (covered_calls One) events first).finished ≡ rs) × ((run (covered_calls One) events first).world.clean ≡ false)

abbrev pub NoInodeLeft : Type 0
NoInodeLeft = NoRoom (makes 0 make_d 10) (record { answer = answers.Full DiskInodes; call = make_d } ∷ [])

abbrev pub NoBlockLeft : Type 0
NoBlockLeft = NoRoom (makes 0 make_d 5 ++ Step 0 (Picks 2) ∷ steps 0 2 ++ Step 0 (RoomFor 0) ∷ steps 0 10)
    (record { answer = answers.Full Blocks; call = make_d } ∷ [])

-- No block is left for the new name of a file, which keeps its one link.

abbrev pub NoBlockForName : Type 0
NoBlockForName = NoRoom (makes_a ++ makes 0 link_ab 13 ++ Step 0 (RoomFor 0) ∷ steps 0 8 ++ makes 0 (calls.Fstat 0) 3)
    (one_link ∷ record { answer = answers.Full Blocks; call = link_ab } ∷ made_a ∷ [])

-- So of a file that an open makes, and for its name; for a new directory's name; for a part of a write past its first byte.

abbrev pub NoInodeForFile : Type 0
NoInodeForFile = NoRoom (makes 0 make_a 10) (record { answer = answers.Full DiskInodes; call = make_a } ∷ [])

abbrev pub NoBlockForFile : Type 0
NoBlockForFile = NoRoom (makes 0 make_a 5 ++ Step 0 (Picks 2) ∷ steps 0 2 ++ Step 0 (RoomFor 0) ∷ steps 0 10)
    (record { answer = answers.Full Blocks; call = make_a } ∷ [])

abbrev pub NoBlockForDirectory : Type 0
NoBlockForDirectory = NoRoom (makes 0 make_d 5 ++ Step 0 (Picks 2) ∷ steps 0 3 ++ Step 0 (RoomFor 0) ∷ steps 0 10)
    (record { answer = answers.Full Blocks; call = make_d } ∷ [])

abbrev pub write_ab : Call
write_ab = calls.Write 0 (codes "AB")

abbrev pub NoBlockForPart : Type 0
NoBlockForPart = NoRoom (makes_a ++ makes 0 write_ab 2 ++ Step 0 (RoomFor 1) ∷ steps 0 2 ++ makes 0 (calls.Fstat 0) 3)
    (record { answer = answers.Stat (record { device = 1; inode = 2; kind = types.File; nlink = 1; size = 1 }); call = calls.Fstat 0 }
    ∷ record { answer = answers.Full Blocks; call = write_ab } ∷ made_a ∷ [])

-- All sixteen descriptors are of the root: there is none for one more, nor to open it again.

unfoldable pub doubles : ℕ → List (Event Call Outside)
doubles zero = []
doubles (suc n) = makes 0 (calls.Dup 0) 2 ++ doubles n

unfoldable pub doubled_to : ℕ → List Reply
doubled_to zero = opened_root ∷ []
doubled_to (suc n) = record { answer = answers.Fd (suc n); call = calls.Dup 0 } ∷ doubled_to n

abbrev pub NoDescriptorToDouble : Type 0
NoDescriptorToDouble = NoRoom (opens ++ doubles 15 ++ makes 0 (calls.Dup 0) 2)
    (record { answer = answers.Full Descriptors; call = calls.Dup 0 } ∷ doubled_to 15)

abbrev pub NoDescriptorToOpen : Type 0
NoDescriptorToOpen =
    NoRoom (opens ++ doubles 15 ++ makes 0 open_root 9) (record { answer = answers.Full Descriptors; call = open_root } ∷ doubled_to 15)

-- A file has all the links that it may have. Of these names the tree has one, so no run leads to it: the program alone
-- is seen here.

abbrev pub much_linked : Tree
much_linked = let t : Tree = tree_of (fresh_tree One 10) in
    with_nodes t (put (put t.nodes 1 (Some (with_entry (codes "a") 2 (node_or (t.nodes 1))))) 2
    (Some (record { count = count_limit; kind = File [] })))

abbrev pub LinkOfMany : Type 0
LinkOfMany = replies One (run (covered_calls One) (makes 0 link_ab 11) (fresh (covered_calls One) (at_rest much_linked))).finished
    ≡ refused link_ab TooManyLinks ∷ []

-- A directory has all the slots that it may have. So many names of one file aren't well formed, so the program alone is seen here, too.

abbrev pub full_root : Tree
full_root = let t : Tree = tree_of (fresh_tree One 10) in
    with_nodes t (put t.nodes 1
    (Some (record { count = 1; kind = Directory (replicate (slot_limit One) (Some (record { name = codes "x"; number = 2 }))) })))

abbrev pub FindsNoSlot : Tree → Call → List (Event Call Outside) → Type 0
FindsNoSlot t c events = replies One (run (covered_calls One) events (fresh (covered_calls One) (at_rest t))).finished
    ≡ record { answer = answers.Full DirectorySlots; call = c } ∷ []

abbrev pub NoSlotForDirectory : Type 0
NoSlotForDirectory = FindsNoSlot full_root make_d (makes 0 make_d 5 ++ Step 0 (Picks 2) ∷ steps 0 14)

abbrev pub NoSlotForFile : Type 0
NoSlotForFile = FindsNoSlot full_root make_a (makes 0 make_a 5 ++ Step 0 (Picks 2) ∷ steps 0 13)

abbrev pub full_of_links : Tree
full_of_links = with_nodes full_root (put full_root.nodes 2 (Some (record { count = 1; kind = File [] })))

abbrev pub link_xb : Call
link_xb = calls.Link (codes "/x") (codes "/b")

-- and the file keeps its one link
abbrev pub NoSlotForName : Type 0
NoSlotForName = FindsNoSlot full_of_links link_xb (makes 0 link_xb 22)
    × ((run (covered_calls One) (makes 0 link_xb 22) (fresh (covered_calls One) (at_rest full_of_links))).world.disk 2
    ≡ Some (record { count = 1; kind = File [] }))

-- Two names that agree in their first fourteen bytes are one in version 1, and two in version 2.

abbrev pub make_long : ℕ → Call
make_long last = calls.Open (codes "/abcdefghijklmn" ++ last ∷ []) 512

abbrev pub makes_long : ℕ → ℕ → List (Event Call Outside)
makes_long last n = makes 0 (make_long last) 5 ++ Step 0 (Picks n) ∷ steps 0 12

abbrev pub long_reply : ℕ → ℕ → Reply
long_reply last fd = record { answer = answers.Fd fd; call = make_long last }

-- the second one opens the file of this number
abbrev pub OpensSecond : Version → ℕ → Type 0
OpensSecond version n =
    replies version (run (covered_calls version) (makes_long 49 2 ++ makes_long 50 3 ++ makes 0 (calls.Fstat 1) 3)
    (fresh (covered_calls version) (at_rest (tree_of (fresh_tree version 10))))).finished
    ≡ record { answer = answers.Stat (record { device = 1; inode = n; kind = types.File; nlink = 1; size = 0 }); call = calls.Fstat 1 }
    ∷ long_reply 50 1 ∷ long_reply 49 0 ∷ []

abbrev pub LongNamesAreTold : Type 0
LongNamesAreTold = OpensSecond One 2 × OpensSecond Two 3
