-- Short runs as tree steps, with what they answer from a fresh tree; of version 1, if nothing else is said.
use Rattle.std.specs.Prelude.{◌≡◌, ℕ, true, false, List, [], ◌∷◌, ◌++◌, map, codes, replicate}
use Rattle.image_versions.specs.declared.version.Version.{Version}
use Rattle.image_versions.specs.declared.version.Version.TheVariants.{One, Two}
use Rattle.plain_tree.specs.declared.answer.Cause.TheVariants.{NoEntry, Exists, DotName, BadDescriptor, BadOffset}
use Rattle.plain_tree.specs.declared.answer.Full.TheVariants.{Descriptors}
use Rattle.plain_tree.specs.declared.answer.NodeType.{NodeType}
use Rattle.plain_tree.specs.declared.answer.NodeType.TheVariants.{Directory as ADirectory, File as AFile}
use Rattle.plain_tree.specs.declared.step.Action.{Action}
use Rattle.plain_tree.specs.declared.step.Action.TheVariants.{Open, Truncate, Read, WritePart, Find, Bump, Enter, Unbump, Unlink, Mkdir, Chdir, Dup, Close, Fstat, Inherit}
use Rattle.plain_tree.specs.declared.step.StepAnswer.{StepAnswer}
use Rattle.plain_tree.specs.declared.step.StepAnswer.TheVariants.{Opened, Bytes, Stat as Status, Done, Failed, Full as NoRoom}
use Rattle.plain_tree.specs.Basics.{tree_of}
use Rattle.plain_tree.specs.Fresh.{Made, fresh, answers}

-- a step and what it answers
pub record Line : Type 0 where
  pub made : Made
  pub answer : StepAnswer

-- a step of the hart that makes no node and opens no file
abbrev pub line : ℕ → Action → StepAnswer → Line
line h a r = record { made = record { step = record { hart = h; new = 0; action = a }; id = 0 }; answer = r }

-- one that may make node n
abbrev pub makes : ℕ → ℕ → Action → StepAnswer → Line
makes h n a r = record { made = record { step = record { hart = h; new = n; action = a }; id = 0 }; answer = r }

-- one that opens, as open file id, and may make node n
abbrev pub opens : ℕ → ℕ → ℕ → Action → StepAnswer → Line
opens h n id a r = record { made = record { step = record { hart = h; new = n; action = a }; id = id }; answer = r }

abbrev pub is_so : Version → List Line → Type 0
is_so v ls = answers v (tree_of (fresh v 200)) (map (λ l. l.made) ls) ≡ map (λ l. l.answer) ls

-- number, type, links and size
abbrev pub stat : ℕ → NodeType → ℕ → ℕ → StepAnswer
stat n k links size = Status (record { device = 1; inode = n; kind = k; nlink = links; size = size })

-- flags of open
abbrev pub write_and_create : ℕ
write_and_create = 513

abbrev pub both_and_create : ℕ
both_and_create = 514

abbrev pub read_and_create : ℕ
read_and_create = 512

abbrev pub read_and_truncate : ℕ
read_and_truncate = 1024

-- entries of version 1's content: number, name, zeros
abbrev pub dot_entry : ℕ → List ℕ
dot_entry n = n ∷ 0 ∷ 46 ∷ replicate 13 0

abbrev pub dotdot_entry : ℕ → List ℕ
dotdot_entry n = n ∷ 0 ∷ 46 ∷ 46 ∷ replicate 12 0

abbrev pub ReadsRoot : Type 0
ReadsRoot = is_so One (
    opens 0 0 0 (Open (codes "/") 0) (Opened 0 0 false)
    ∷ line 0 (Fstat 0) (stat 1 ADirectory 1 1024)
    ∷ line 0 (Read 0 32) (Bytes (dot_entry 1 ++ dotdot_entry 1))
    ∷ [])

abbrev pub MakesDirectory : Type 0
MakesDirectory = is_so One (
    makes 0 2 (Mkdir (codes "/a")) Done
    ∷ opens 0 0 0 (Open (codes "/a") 0) (Opened 0 0 false)
    ∷ line 0 (Fstat 0) (stat 2 ADirectory 1 32)
    ∷ opens 0 0 1 (Open (codes "/") 0) (Opened 1 1 false)
    ∷ line 0 (Fstat 1) (stat 1 ADirectory 2 1024)
    ∷ [])

abbrev pub MakesLongerDirectory : Type 0
MakesLongerDirectory = is_so Two (
    makes 0 2 (Mkdir (codes "/a")) Done
    ∷ opens 0 0 0 (Open (codes "/a") 0) (Opened 0 0 false)
    ∷ line 0 (Fstat 0) (stat 2 ADirectory 1 64)
    ∷ opens 0 0 1 (Open (codes "/") 0) (Opened 1 1 false)
    ∷ line 0 (Fstat 1) (stat 1 ADirectory 2 1024)
    ∷ line 0 (Read 0 33) (Bytes (2 ∷ 0 ∷ 46 ∷ replicate 29 0 ++ 1 ∷ []))
    ∷ [])

abbrev pub TakesNoElements : Type 0
TakesNoElements = is_so One (
    opens 0 0 0 (Open [] 0) (Opened 0 0 false)
    ∷ opens 0 0 1 (Open (codes "/") 0) (Opened 1 1 false)
    ∷ line 0 (Unlink (codes "/")) (Failed NoEntry)
    ∷ makes 0 2 (Mkdir (codes "/")) (Failed NoEntry)
    ∷ [])

abbrev pub CutsNames : Type 0
CutsNames = is_so One (
    opens 0 2 0 (Open (codes "/abcdefghijklmn") read_and_create) (Opened 0 0 true)
    ∷ opens 0 3 1 (Open (codes "/abcdefghijklmnopqrst") read_and_create) (Opened 1 1 true)
    ∷ line 0 (Fstat 0) (stat 2 AFile 1 0)
    ∷ line 0 (Fstat 1) (stat 2 AFile 1 0)
    ∷ [])

-- Two names of 15 bytes, of which only the last differs, are one name in version 1 and two in version 2.
abbrev pub long_names : ℕ → List Line
long_names n =
    opens 0 2 0 (Open (codes "/abcdefghijklmno") read_and_create) (Opened 0 0 true)
    ∷ opens 0 3 1 (Open (codes "/abcdefghijklmnp") read_and_create) (Opened 1 1 true)
    ∷ line 0 (Fstat 0) (stat 2 AFile 1 0)
    ∷ line 0 (Fstat 1) (stat n AFile 1 0)
    ∷ []

abbrev pub TellsLongNames : Type 0
TellsLongNames = is_so One (long_names 2) × is_so Two (long_names 3)

abbrev pub WritesInPieces : Type 0
WritesInPieces = is_so One (
    opens 0 2 0 (Open (codes "/f") write_and_create) (Opened 0 0 true)
    ∷ opens 1 0 1 (Open (codes "/f") 0) (Opened 0 1 true)
    ∷ line 0 (WritePart 0 (replicate 3072 7)) Done
    ∷ line 1 (Fstat 0) (stat 2 AFile 1 3072)
    ∷ line 0 (WritePart 0 (7 ∷ [])) Done
    ∷ line 1 (Fstat 0) (stat 2 AFile 1 3073)
    ∷ [])

abbrev pub EmptiesUnderAWriter : Type 0
EmptiesUnderAWriter = is_so One (
    opens 0 2 0 (Open (codes "/f") both_and_create) (Opened 0 0 true)
    ∷ line 0 (WritePart 0 (replicate 100 7)) Done
    ∷ opens 1 0 1 (Open (codes "/f") read_and_truncate) (Opened 0 1 true)
    ∷ line 1 (Truncate 0) Done
    ∷ line 0 (Read 0 10) (Bytes [])
    ∷ line 0 (WritePart 0 (codes "A")) (Failed BadOffset)
    ∷ line 0 (WritePart 0 []) Done
    ∷ [])

-- An open of /d/f that acts after both unlinks finds nothing, even if both names were made anew later.
abbrev pub FindsNothingInTheRemoved : Type 0
FindsNothingInTheRemoved = is_so One (
    makes 1 2 (Mkdir (codes "/d")) Done
    ∷ opens 1 3 0 (Open (codes "/d/f") read_and_create) (Opened 0 0 true)
    ∷ line 1 (Close 0) Done
    ∷ line 1 (Unlink (codes "/d/f")) Done
    ∷ line 1 (Unlink (codes "/d")) Done
    ∷ opens 0 0 0 (Open (codes "/d/f") 0) (Failed NoEntry)
    ∷ makes 1 3 (Mkdir (codes "/d")) Done
    ∷ opens 1 4 0 (Open (codes "/d/f") read_and_create) (Opened 0 0 true)
    ∷ opens 0 0 1 (Open (codes "/d/f") 0) (Opened 0 1 true)
    ∷ [])

abbrev pub StaysInTheRemoved : Type 0
StaysInTheRemoved = is_so One (
    makes 0 2 (Mkdir (codes "/d")) Done
    ∷ line 0 (Chdir (codes "/d")) Done
    ∷ line 1 (Unlink (codes "/d")) Done
    ∷ opens 0 3 0 (Open (codes "x") read_and_create) (Failed NoEntry)
    ∷ opens 0 0 0 (Open (codes ".") 0) (Failed NoEntry)
    ∷ opens 0 0 0 (Open [] 0) (Opened 0 0 false)
    ∷ line 0 (Read 0 48) (Bytes (dot_entry 2 ++ dotdot_entry 1))
    ∷ [])

abbrev pub LinksWhileUnlinked : Type 0
LinksWhileUnlinked = is_so One (
    opens 1 2 0 (Open (codes "/f") write_and_create) (Opened 0 0 true)
    ∷ line 1 (WritePart 0 (codes "A")) Done
    ∷ line 0 (Find (codes "/f")) Done
    ∷ line 0 Bump Done
    ∷ line 1 (Unlink (codes "/f")) Done
    ∷ line 0 (Enter (codes "/g")) Done
    ∷ opens 0 0 1 (Open (codes "/g") 0) (Opened 0 1 true)
    ∷ line 0 (Fstat 0) (stat 2 AFile 1 1)
    ∷ line 0 (Read 0 9) (Bytes (codes "A"))
    ∷ [])

abbrev pub TakesItsRaiseBack : Type 0
TakesItsRaiseBack = is_so One (
    opens 1 2 0 (Open (codes "/f") read_and_create) (Opened 0 0 true)
    ∷ opens 1 3 1 (Open (codes "/g") read_and_create) (Opened 1 1 true)
    ∷ line 0 (Find (codes "/f")) Done
    ∷ line 0 Bump Done
    ∷ line 1 (Fstat 0) (stat 2 AFile 2 0)
    ∷ line 0 (Enter (codes "/g")) (Failed Exists)
    ∷ line 0 Unbump Done
    ∷ line 1 (Fstat 0) (stat 2 AFile 1 0)
    ∷ [])

abbrev pub SharesItsOffset : Type 0
SharesItsOffset = is_so One (
    opens 0 0 0 (Open (codes "/") 0) (Opened 0 0 false)
    ∷ line 0 (Inherit 1) Done
    ∷ line 0 (Read 0 16) (Bytes (dot_entry 1))
    ∷ line 1 (Read 0 16) (Bytes (dotdot_entry 1))
    ∷ [])

abbrev pub sixteen_opens : List Line
sixteen_opens =
    opens 0 0 0 (Open [] 0) (Opened 0 0 false) ∷ opens 0 0 1 (Open [] 0) (Opened 1 1 false) ∷ opens 0 0 2 (Open [] 0) (Opened 2 2 false)
    ∷ opens 0 0 3 (Open [] 0) (Opened 3 3 false)
    ∷ opens 0 0 4 (Open [] 0) (Opened 4 4 false) ∷ opens 0 0 5 (Open [] 0) (Opened 5 5 false) ∷ opens 0 0 6 (Open [] 0) (Opened 6 6 false)
    ∷ opens 0 0 7 (Open [] 0) (Opened 7 7 false)
    ∷ opens 0 0 8 (Open [] 0) (Opened 8 8 false) ∷ opens 0 0 9 (Open [] 0) (Opened 9 9 false)
    ∷ opens 0 0 10 (Open [] 0) (Opened 10 10 false) ∷ opens 0 0 11 (Open [] 0) (Opened 11 11 false)
    ∷ opens 0 0 12 (Open [] 0) (Opened 12 12 false) ∷ opens 0 0 13 (Open [] 0) (Opened 13 13 false)
    ∷ opens 0 0 14 (Open [] 0) (Opened 14 14 false) ∷ opens 0 0 15 (Open [] 0) (Opened 15 15 false)
    ∷ []

-- A seventeenth open has no descriptor; the file that it made stays.
abbrev pub KeepsWhatItMade : Type 0
KeepsWhatItMade = is_so One (sixteen_opens ++
    opens 0 2 16 (Open (codes "/new") read_and_create) (NoRoom Descriptors)
    ∷ makes 1 3 (Mkdir (codes "/new")) (Failed Exists)
    ∷ line 0 (Dup 3) (NoRoom Descriptors)
    ∷ line 0 (Dup 16) (Failed BadDescriptor)
    ∷ [])

abbrev pub KeepsTheOpenFile : Type 0
KeepsTheOpenFile = is_so One (
    opens 0 2 0 (Open (codes "/f") read_and_create) (Opened 0 0 true)
    ∷ line 0 (Unlink (codes "/f")) Done
    ∷ line 0 (Unlink (codes "/f")) (Failed NoEntry)
    ∷ line 0 (Fstat 0) (stat 2 AFile 0 0)
    ∷ line 0 (Unlink (codes "/.")) (Failed DotName)
    ∷ [])

abbrev pub RefusesWhatIsOutOfPlace : Type 0
RefusesWhatIsOutOfPlace = is_so One (
    line 0 Bump (Failed BadDescriptor)
    ∷ line 0 (Enter (codes "/g")) (Failed BadDescriptor)
    ∷ line 0 Unbump (Failed BadDescriptor)
    ∷ line 0 (Truncate 0) (Failed BadDescriptor)
    ∷ line 0 (Inherit 0) (Failed BadDescriptor)
    ∷ line 0 (Inherit 8) (Failed BadDescriptor)
    ∷ line 8 (Chdir (codes "/")) (Failed BadDescriptor)
    ∷ opens 1 2 0 (Open (codes "/f") read_and_create) (Opened 0 0 true)
    ∷ line 0 (Inherit 1) (Failed BadDescriptor)
    ∷ line 0 (Find (codes "/f")) Done
    ∷ line 0 Bump Done
    ∷ line 0 (Find (codes "/f")) (Failed BadDescriptor)
    ∷ [])
