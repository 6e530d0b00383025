-- How many blocks a call's transactions record at most, by the call's program alone.
use Rattle.std.specs.Prelude.{ℕ, ◌+◌, ◌≤◌, List, [], ◌∷◌, length, Bool, true, false, ◌||◌, ◌==◌, if◌then◌else◌}
use Rattle.image_versions.specs.declared.version.Version.{Version}
use Rattle.inode_machine.specs.Vocabulary.{Call, one_if, Ret, Do}
use Rattle.inode_machine.specs.Basics.{Op, Answer, P}
use Rattle.inode_machine.specs.World.Op.{Free, Claim, Store, Fill, Enter, Clear, Empty, JoinFile, WriteFile, Join}
use Rattle.inode_machine.specs.Programs.{program}

-- What a transaction may have recorded: the blocks of these inodes' records, the bitmap's, and so many blocks more.
pub record Spent : Type 0 where
  pub records : List ℕ
  pub bitmap : Bool
  pub contents : ℕ

abbrev pub unspent : Spent
unspent = record { records = []; bitmap = false; contents = 0 }

-- how many blocks these are at most
abbrev pub size : Spent → ℕ
size s = length s.records + one_if s.bitmap + s.contents

abbrev pub has : List ℕ → ℕ → Bool
has [] n = false
has (k ∷ ks) n = (n == k) || has ks n

abbrev pub with_number : List ℕ → ℕ → List ℕ
with_number ks n = if has ks n then ks else n ∷ ks

abbrev pub with_record : ℕ → Spent → Spent
with_record n s = record s { records = with_number s.records n }

abbrev pub with_bitmap : Spent → Spent
with_bitmap s = record s { bitmap = true }

abbrev pub with_contents : ℕ → Spent → Spent
with_contents k s = record s { contents = s.contents + k }

-- After an operation. A new inode's number isn't known before; a name may want a block and the table of such, a piece's bytes four and the
-- table.
abbrev pub spent_after : Op → Spent → Spent
spent_after Join s = unspent
spent_after (JoinFile fd) s = unspent
spent_after (Free n) s = with_record n (with_bitmap s)
spent_after (Claim inode_type) s = with_contents 1 s
spent_after (Store n count) s = with_record n s
spent_after (Fill n d) s = with_record n (with_bitmap (with_contents 1 s))
spent_after (Enter d e n) s = with_record d (with_bitmap (with_contents 2 s))
spent_after (Clear d e) s = with_record d (with_contents 1 s)
spent_after (Empty n) s = with_record n (with_bitmap s)
spent_after (WriteFile fd n offset bytes) s = with_record n (with_bitmap (with_contents 5 s))
spent_after op s = s

-- the most blocks of a transaction
abbrev pub most_recorded : ℕ
most_recorded = 10

-- whatever its operations answer, the program has room for each of them
abbrev pub HasRoom : {A : Type 0} → Spent → P A → Type 0
HasRoom s (Ret a) = Unit {0}
HasRoom s (Do op m k) = (size (spent_after op s) ≤ most_recorded) × ((a : Answer op) → HasRoom (spent_after op s) (k a))

-- No transaction of a call records more than ten blocks, whatever the call's operations answer.
abbrev pub TransactionsAreSmall : Version → Type 0
TransactionsAreSmall version = (call : Call) → HasRoom unspent (program version call)
