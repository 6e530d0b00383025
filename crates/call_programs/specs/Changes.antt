-- What an operation on whole inodes changes that outlasts its call, and what remains of that after a call that found
-- no room.
use Rattle.std.specs.Prelude.{◌≡◌, ◌⊎◌, ◌==◌, ◌+◌, ◌-◌, if◌then◌else◌, ℕ, Bool, true, false, List, [], ◌∷◌, ◌++◌, take, Option, Some, None}
use Rattle.inode_machine.specs.Vocabulary.{Full, Blocks, Descriptors, DirectorySlots as Directory, DiskInodes, MemInodes, OpenFiles, Call, Chdir, Dup, Link, Mkdir, Open, Unlink, Write, Name, creates, Bump, Unbump, Own}
use Rattle.inode_machine.specs.Basics.{face_or, Answer, ClaimResult, EntryResult, InPlace, Mark, New, NoBlock, NoInode, NoPlace, NoSlot, Op, Refused, Short, Whole, Wrote as WriteResult}
use Rattle.inode_machine.specs.World.Mark.{Frees, Makes}
use Rattle.inode_machine.specs.World.Op.{Claim, Clear, Double, Empty, Enter, Fill, Free, Install, Lend, LendDirectory, ReadFile, SetDirectory, Shut, Slot, Store, Take, WriteFile}

-- an inode that was locked, with the count that it had then
pub record Sighting : Type 0 where
  pub number : ℕ
  pub count : ℕ

-- Locks, references and transactions are no changes. Nor is it one if an inode is freed and so removed from the tree:
-- it has no name.
pub data Change : Type 0 where
  -- a free inode has a type, but no links and no content
  Claimed : ℕ → Change
  -- An inode's count is this. A link raises it, and takes that back, from the count of the inode that was locked just
  -- before, as it was seen.
  Counted : ℕ → ℕ → Change
  Raised : Option Sighting → ℕ → ℕ → Change
  Lowered : Option Sighting → ℕ → ℕ → Change
  -- a new directory has its two entries
  Filled : ℕ → Change
  -- a directory has this name for this inode; or it hasn't the name any more
  Entered : ℕ → Name → ℕ → Change
  Cleared : ℕ → Name → Change
  -- a file has no bytes
  Emptied : ℕ → Change
  -- an inode has no type, and stays in the tree
  Freed : ℕ → Change
  -- these bytes are written by this descriptor, at its file's offset, and the offset is after them then
  Wrote : ℕ → List ℕ → Change
  -- a place is taken for an open file; it is given back
  TookPlace : Change
  GaveBack : Change
  -- a descriptor, an offset or a current directory is another, as the operation says
  Moved : Op → Change

abbrev pub by_claim : ClaimResult → List Change
by_claim (New n) = Claimed n ∷ []
by_claim NoInode = []
by_claim NoPlace = []

-- the mark says whether the tree's node goes
abbrev pub by_free : ℕ → Option Mark → List Change
by_free n (Some (Frees m)) = if m == n then [] else Freed n ∷ []
by_free n mark = Freed n ∷ []

-- the mark distinguishes a link's raise and its end from other counts
abbrev pub by_count : Option Sighting → ℕ → ℕ → Option Mark → Change
by_count seen n count (Some (Makes (Own Bump new))) = Raised seen n count
by_count seen n count (Some (Makes (Own Unbump new))) = Lowered seen n count
by_count seen n count mark = Counted n count

abbrev pub where_there : Change → Bool → List Change
where_there c true = c ∷ []
where_there c false = []

abbrev pub by_entry : ℕ → Name → ℕ → EntryResult → List Change
by_entry d e n InPlace = Entered d e n ∷ []
by_entry d e n NoBlock = []
by_entry d e n NoSlot = []

abbrev pub by_install : Op → Option ℕ → List Change
by_install op None = GaveBack ∷ []
by_install op (Some fd) = Moved op ∷ []

abbrev pub by_write : ℕ → List ℕ → WriteResult → List Change
by_write fd bytes Whole = Wrote fd bytes ∷ []
by_write fd bytes (Refused why) = []
by_write fd bytes (Short k) = Wrote fd (take k bytes) ∷ []

abbrev pub by_double : Op → Option (Option ℕ) → List Change
by_double op None = []
by_double op (Some None) = []
by_double op (Some (Some fd)) = Moved op ∷ []

abbrev pub by_shut : Op → Option (Option ℕ) → List Change
by_shut op None = []
by_shut op (Some last) = Moved op ∷ []

-- What an operation changes, as its answer and its mark say, with what the one just before it has seen.
abbrev pub changed_by : Option Sighting → (op : Op) → Answer op → Option Mark → List Change
changed_by seen (Claim inode_type) made mark = by_claim made
changed_by seen (Store n count) stored mark = by_count seen n count mark ∷ []
changed_by seen (Fill n d) there mark = where_there (Filled n) there
changed_by seen (Enter d e n) made mark = by_entry d e n made
changed_by seen (Clear d e) cleared mark = Cleared d e ∷ []
changed_by seen (Empty n) emptied mark = Emptied n ∷ []
changed_by seen (Free n) freed mark = by_free n mark
changed_by seen Slot there mark = where_there TookPlace there
changed_by seen (Install f inode_type) fd mark = by_install (Install f inode_type) fd
changed_by seen (ReadFile fd n offset count) bytes mark = Moved (ReadFile fd n offset count) ∷ []
changed_by seen (WriteFile fd n offset bytes) wrote mark = by_write fd bytes wrote
changed_by seen (Double fd) made mark = by_double (Double fd) made
changed_by seen (Shut fd) last mark = by_shut (Shut fd) last
changed_by seen (SetDirectory n) old mark = Moved (SetDirectory n) ∷ []
changed_by seen (Lend child from) lent mark = Moved (Lend child from) ∷ []
changed_by seen (LendDirectory child) old mark = Moved (LendDirectory child) ∷ []
changed_by seen op answer mark = []

-- the inode that an operation locks
abbrev pub seen_by : (op : Op) → Answer op → Option Sighting
seen_by (Take n looking) sight = Some (record { number = n; count = (face_or sight.face).count })
seen_by op answer = None

-- ---- what the changes of a call may be

abbrev pub ChangedNothing : List Change → Type 0
ChangedNothing cs = cs ≡ []

abbrev pub raised : ℕ → ℕ → Change
raised n c = Raised (Some (record { number = n; count = c })) n (c + 1)

abbrev pub lowered : ℕ → ℕ → Change
lowered n c = Lowered (Some (record { number = n; count = c })) n (c - 1)

-- an inode's count was raised by one from what was just seen of it; and lowered by one from what was seen of it then
abbrev pub TookBackRaise : List Change → Type 0
TookBackRaise cs = (n : ℕ) × (c : ℕ) × (d : ℕ) × (cs ≡ raised n c ∷ lowered n d ∷ [])

-- these are of inode n's own count and content, and enter no name
abbrev pub AreOf : ℕ → List Change → Type 0
AreOf n [] = Unit {0}
AreOf n (Counted m count ∷ cs) = (m ≡ n) × AreOf n cs
AreOf n (Filled m ∷ cs) = (m ≡ n) × AreOf n cs
AreOf n (c ∷ cs) = ⊥

-- An inode was claimed and given up again: nothing else was changed, it has no name, and at the end its count is 0.
abbrev pub GaveUpInode : List Change → Type 0
GaveUpInode cs = (n : ℕ) × (own : List Change) × AreOf n own × (cs ≡ Claimed n ∷ own ++ Counted n 0 ∷ [])

-- a new inode, which has one link and one name
abbrev pub MadeFile : List Change → Type 0
MadeFile cs = (n : ℕ) × (d : ℕ) × (e : Name) × (cs ≡ Claimed n ∷ Counted n 1 ∷ Entered d e n ∷ [])

-- nothing, or a new file if CREATE asks for one
abbrev pub MadeFileAtMost : ℕ → List Change → Type 0
MadeFileAtMost flags cs = (cs ≡ []) ⊎ ((creates flags ≡ true) × MadeFile cs)

-- besides, a place was taken for an open file, and given back
abbrev pub GaveBackPlace : ℕ → List Change → Type 0
GaveBackPlace flags cs = (made : List Change) × MadeFileAtMost flags made × (cs ≡ made ++ TookPlace ∷ GaveBack ∷ [])

-- these write the bytes by this descriptor, from the first one on, piece after piece, and change nothing else
abbrev pub WroteFrom : ℕ → List ℕ → List Change → Type 0
WroteFrom fd bytes [] = Unit {0}
WroteFrom fd bytes (Wrote by b ∷ cs) = (by ≡ fd) × (rest : List ℕ) × (bytes ≡ b ++ rest) × WroteFrom fd rest cs
WroteFrom fd bytes (c ∷ cs) = ⊥

-- What a call's operations have changed when it is answered that there is no room of this kind. No other call is answered so.
abbrev pub Stands : Full → Call → List Change → Type 0
Stands MemInodes (Open path flags) cs = ChangedNothing cs
Stands MemInodes (Mkdir path) cs = ChangedNothing cs
Stands MemInodes (Unlink path) cs = ChangedNothing cs
Stands MemInodes (Chdir path) cs = ChangedNothing cs
Stands MemInodes (Link old new) cs = ChangedNothing cs ⊎ TookBackRaise cs
Stands OpenFiles (Open path flags) cs = MadeFileAtMost flags cs
Stands Descriptors (Open path flags) cs = GaveBackPlace flags cs
Stands Descriptors (Dup fd) cs = ChangedNothing cs
Stands Blocks (Open path flags) cs = GaveUpInode cs
Stands Blocks (Mkdir path) cs = GaveUpInode cs
Stands Blocks (Link old new) cs = TookBackRaise cs
Stands Blocks (Write fd bytes) cs = WroteFrom fd bytes cs
Stands DiskInodes (Open path flags) cs = ChangedNothing cs
Stands DiskInodes (Mkdir path) cs = ChangedNothing cs
Stands Directory (Open path flags) cs = GaveUpInode cs
Stands Directory (Mkdir path) cs = GaveUpInode cs
Stands Directory (Link old new) cs = TookBackRaise cs
Stands room call cs = ⊥
