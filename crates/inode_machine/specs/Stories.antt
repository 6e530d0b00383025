-- Runs in which two harts meet, event by event, from a fresh tree.
use Rattle.std.specs.Prelude.{ℕ, List, [], ◌∷◌, ◌++◌, codes}
use Rattle.plain_tree.specs.declared.answer.Answer.TheVariants as answers
use Rattle.inode_machine.specs.Vocabulary.{Cause, NoEntry, Exists, NodeType, Reply, Call, Event, Step}
use Rattle.plain_tree.specs.declared.answer.NodeType.TheVariants as types
use Rattle.plain_tree.specs.declared.call.Call.TheVariants as calls
use Rattle.inode_machine.specs.Basics.{Outside, Picks}
use Rattle.inode_machine.specs.Examples.{steps, makes, done, Finishes}

abbrev pub failed : Call → Cause → Reply
failed c k = record { answer = answers.Failed k; call = c }

abbrev pub opened : Call → ℕ → Reply
opened c fd = record { answer = answers.Fd fd; call = c }

abbrev pub counted : ℕ → Call → Reply
counted n c = record { answer = answers.Count n; call = c }

-- an fstat by descriptor 0, of inode 2 or 1
abbrev pub stat_is : NodeType → ℕ → ℕ → ℕ → Reply
stat_is kind n links size =
    record { answer = answers.Stat (record { device = 1; inode = n; kind = kind; nlink = links; size = size }); call = calls.Fstat 0 }

abbrev pub stat : Call
stat = calls.Fstat 0

-- a call that makes an inode, with this number, after so many steps, and so many follow
abbrev pub creates_as : ℕ → Call → ℕ → ℕ → ℕ → List (Event Call Outside)
creates_as h call before n after = makes h call before ++ Step h (Picks n) ∷ steps h after

abbrev pub mkdir : List ℕ → Call
mkdir path = calls.Mkdir path

abbrev pub make_f : Call
make_f = calls.Open (codes "/d/f") 512

abbrev pub open_f : Call
open_f = calls.Open (codes "/d/f") 0

-- Hart 0 has come to the directory when hart 1 removes the file in it, and it.
abbrev pub removed_on_the_way : List (Event Call Outside)
removed_on_the_way =
    creates_as 1 (mkdir (codes "/d")) 5 2 11 ++ creates_as 1 make_f 9 3 10 ++ makes 1 (calls.Close 0) 5
    ++ makes 0 open_f 5
    ++ makes 1 (calls.Unlink (codes "/d/f")) 22 ++ makes 1 (calls.Unlink (codes "/d")) 16

abbrev pub removed_replies : List Reply
removed_replies = done (calls.Unlink (codes "/d")) ∷ done (calls.Unlink (codes "/d/f")) ∷ done (calls.Close 0) ∷ opened make_f 0
    ∷ done (mkdir (codes "/d")) ∷ []

abbrev pub WalkFails : Type 0
WalkFails = Finishes (removed_on_the_way ++ steps 0 12) (failed open_f NoEntry ∷ removed_replies)

-- and also if both names are made anew meanwhile: its directory is still the old one
abbrev pub WalkFailsStill : Type 0
WalkFailsStill =
    Finishes (removed_on_the_way ++ creates_as 1 (mkdir (codes "/d")) 5 3 11 ++ creates_as 1 make_f 9 4 10 ++ steps 0 12)
    (failed open_f NoEntry ∷ opened make_f 0 ∷ done (mkdir (codes "/d")) ∷ removed_replies)

-- A hart stays in its directory when that is removed: it finds nothing there, not even itself by name, and reads its entries.
abbrev pub entries_left : List ℕ
entries_left =
    2 ∷ 0 ∷ 46 ∷ 0 ∷ 0 ∷ 0 ∷ 0 ∷ 0 ∷ 0 ∷ 0 ∷ 0 ∷ 0 ∷ 0 ∷ 0 ∷ 0 ∷ 0 ∷ 1 ∷ 0 ∷ 46 ∷ 46 ∷ 0 ∷ 0 ∷ 0 ∷ 0 ∷ 0 ∷ 0 ∷ 0 ∷ 0 ∷ 0 ∷ 0 ∷ 0 ∷ 0 ∷ []

abbrev pub StaysInTheRemoved : Type 0
StaysInTheRemoved =
    Finishes
    (creates_as 0 (mkdir (codes "/d")) 5 2 11 ++ makes 0 (calls.Chdir (codes "/d")) 11 ++ makes 1 (calls.Unlink (codes "/d")) 16
    ++ makes 0 (calls.Open (codes "x") 512) 12 ++ makes 0 (calls.Open (codes ".") 0) 8 ++ makes 0 (calls.Open [] 0) 8
    ++ makes 0 (calls.Read 0 (entries_left ++ 7 ∷ [])) 3)
    (counted 32 (calls.Read 0 (entries_left ++ 7 ∷ [])) ∷ opened (calls.Open [] 0) 0 ∷ failed (calls.Open (codes ".") 0) NoEntry
    ∷ failed (calls.Open (codes "x") 512) NoEntry
    ∷ done (calls.Unlink (codes "/d")) ∷ done (calls.Chdir (codes "/d")) ∷ done (mkdir (codes "/d")) ∷ [])

-- A link has raised the count when hart 1 unlinks the old name: the file stays, with the new one.
abbrev pub make_old : Call
make_old = calls.Open (codes "/f") 513

abbrev pub link_fg : Call
link_fg = calls.Link (codes "/f") (codes "/g")

abbrev pub LinksWhileUnlinked : Type 0
LinksWhileUnlinked =
    Finishes
    (creates_as 1 make_old 5 2 10 ++ makes 1 (calls.Write 0 (codes "A")) 5 ++ makes 0 link_fg 9 ++ makes 1 (calls.Unlink (codes "/f")) 15
    ++ steps 0 10
    ++ makes 0 (calls.Open (codes "/g") 0) 12 ++ makes 0 stat 3 ++ makes 0 (calls.Read 0 (7 ∷ 7 ∷ [])) 3)
    (counted 1 (calls.Read 0 (65 ∷ 7 ∷ [])) ∷ stat_is types.File 2 1 1 ∷ opened (calls.Open (codes "/g") 0) 0 ∷ done link_fg
    ∷ done (calls.Unlink (codes "/f")) ∷ counted 1 (calls.Write 0 (codes "A")) ∷ opened make_old 0 ∷ [])

-- While a link is under way its raise is seen; refused, it takes it back.
abbrev pub make_f0 : Call
make_f0 = calls.Open (codes "/f") 512

abbrev pub make_g0 : Call
make_g0 = calls.Open (codes "/g") 512

abbrev pub RaiseIsSeen : Type 0
RaiseIsSeen =
    Finishes (creates_as 1 make_f0 5 2 10 ++ creates_as 1 make_g0 5 3 10 ++ makes 0 link_fg 9 ++ makes 1 stat 3 ++ steps 0 12
    ++ makes 1 stat 3)
    (stat_is types.File 2 1 0 ∷ failed link_fg Exists ∷ stat_is types.File 2 2 0 ∷ opened make_g0 1 ∷ opened make_f0 0 ∷ [])

-- After an inherit both harts read on from one offset: hart 1's part is the second one though it answers first.
abbrev pub first_entry : List ℕ
first_entry = 1 ∷ 0 ∷ 46 ∷ 0 ∷ 0 ∷ 0 ∷ 0 ∷ 0 ∷ 0 ∷ 0 ∷ 0 ∷ 0 ∷ 0 ∷ 0 ∷ 0 ∷ 0 ∷ []

abbrev pub second_entry : List ℕ
second_entry = 1 ∷ 0 ∷ 46 ∷ 46 ∷ 0 ∷ 0 ∷ 0 ∷ 0 ∷ 0 ∷ 0 ∷ 0 ∷ 0 ∷ 0 ∷ 0 ∷ 0 ∷ 0 ∷ []

abbrev pub OffsetIsShared : Type 0
OffsetIsShared =
    Finishes
    (makes 0 (calls.Open (codes "/") 0) 8 ++ makes 0 (calls.Inherit 1) 6 ++ makes 0 (calls.Read 0 second_entry) 2
    ++ makes 1 (calls.Read 0 first_entry) 3 ++ steps 0 1)
    (counted 16 (calls.Read 0 first_entry) ∷ counted 16 (calls.Read 0 second_entry) ∷ done (calls.Inherit 1)
    ∷ opened (calls.Open (codes "/") 0) 0 ∷ [])

-- A path that climbs resolves though at no moment it names that file: the directory is left before it is removed, and the file made after.
abbrev pub ClimbsAcross : Type 0
ClimbsAcross =
    Finishes
    (creates_as 0 (mkdir (codes "/a")) 5 2 11 ++ creates_as 0 (mkdir (codes "/a/b")) 9 3 11 ++ makes 0 (calls.Chdir (codes "/a/b")) 15
    ++ makes 0 (calls.Open (codes "../c") 0) 5
    ++ makes 1 (calls.Unlink (codes "/a/b")) 20 ++ creates_as 1 (calls.Open (codes "/a/c") 512) 9 4 10 ++ steps 0 11)
    (opened (calls.Open (codes "../c") 0) 0 ∷ opened (calls.Open (codes "/a/c") 512) 0 ∷ done (calls.Unlink (codes "/a/b"))
    ∷ done (calls.Chdir (codes "/a/b")) ∷ done (mkdir (codes "/a/b")) ∷ done (mkdir (codes "/a")) ∷ [])
