-- The search for a block or for an inode ends without one only if it has looked everywhere, whatever its steps are
-- answered.
use Rattle.std.specs.Prelude.{◌≡◌, ◌⊎◌, ℕ, ◌<◌, ◌≤◌, true, false, List, [], ◌∷◌, length, Option, Some, IsSome}
use Rattle.run_laws.specs.Vocabulary.{Super, bit_of, dinode_at, Full, Blocks, Descriptors, Directory, DiskInodes, MemInodes, OpenFiles, name_len_of, In, Handover, Prog, Ret, Do, Ran, place_in_memory, Outside, AnswerBelow as Answer, Get, HasNoInode as NoInode, Read, exec, is_zero, inode_block, place_of, Enter, Carry, handlers, Version}
use Rattle.fs_machine.specs.Steps.{Claim, Op, State}
use Rattle.inode_machine.specs.World as above
use Rattle.call_programs.specs.Wanted.{wanted}

-- an operation on the blocks with its answer
abbrev pub AnsweredStep : Type 0
AnsweredStep = (op : Op) × Answer op

-- the program makes these operations, so answered, the oldest first; and there it ends with r
abbrev pub ComesTo : {M A : Type 0} → Prog Op Answer M A → List AnsweredStep → A → Type 0
ComesTo (Ret a) [] r = a ≡ r
ComesTo (Ret a) (e ∷ es) r = ⊥
ComesTo (Do op m k) [] r = ⊥
ComesTo (Do op m k) (e ∷ es) r = (a : Answer op) × (e ≡ (op, a)) × ComesTo (k a) es r

-- these bytes of the block came into hand: its buffer was valid, or was read from the device
abbrev pub HasRead : List AnsweredStep → ℕ → List ℕ → Type 0
HasRead es b bytes = In (Get b, Some bytes) es ⊎ In (Read b, bytes) es

-- the bitmap was read, and no bit below the size was clear there
pub record SawNoBlock (sizes : Super) (es : List AnsweredStep) : Type 0 where
  pub bitmap : List ℕ
  pub read : HasRead es sizes.bmapstart bitmap
  pub set : (b : ℕ) → b < sizes.size → bit_of bitmap b ≡ true

-- The block of inode n was read. The inode has a type there; or it was among those of the block of which none could be claimed.
pub record SawInUse (sizes : Super) (es : List AnsweredStep) (n : ℕ) : Type 0 where
  pub block : List ℕ
  pub read : HasRead es (inode_block sizes.inodestart n) block
  pub candidates : List ℕ
  pub claims : In (Claim (inode_block sizes.inodestart n) candidates, NoInode) es
  pub used : (is_zero (dinode_at (place_of n) block).kind ≡ false) ⊎ In n candidates

-- so it is with each inode of the disk
abbrev pub SawNoInode : Super → List AnsweredStep → Type 0
SawNoInode sizes es = (n : ℕ) → 1 ≤ n → n < sizes.ninodes → SawInUse sizes es n

-- what was seen of the room that was wanted and not found; all else one step decides
abbrev pub SawNone : Super → List AnsweredStep → Full → Type 0
SawNone sizes es Blocks = SawNoBlock sizes es
SawNone sizes es DiskInodes = SawNoInode sizes es
SawNone sizes es MemInodes = Unit {0}
SawNone sizes es OpenFiles = Unit {0}
SawNone sizes es Descriptors = Unit {0}
SawNone sizes es Directory = Unit {0}

-- a name that is entered fits into an entry
abbrev pub NameFits : Version → above.Op → Type 0
NameFits version (Enter d e n) = length e ≤ name_len_of version
NameFits version op = Unit {0}

-- Whatever the program of an operation on whole inodes is answered, it has looked everywhere. If it ends for want of
-- a block it has read the bitmap, and no bit was clear. If it ends for want of an inode it has read each inode's
-- block, and the inode was in use, or could not be claimed.
abbrev pub SearchesSeeAll : Type 0
SearchesSeeAll =
    (sizes : Super) (c : Carry) (op : above.Op) (m : above.Answer op → Option above.Mark) (es : List AnsweredStep)
    (r : Handover (above.Answer op) Carry) (room : Full)
    → NameFits sizes.version op → ComesTo (handlers sizes c op m) es r → wanted op r.answer ≡ Some room → SawNone sizes es room

-- And if the answer is that none of its candidates could be claimed, a reference to each of them was there when it
-- was made.
abbrev pub ClaimsFindReferences : Type 0
ClaimsFindReferences =
    (h : ℕ) (x : Outside) (b : ℕ) (candidates : List ℕ) (s t : State) → exec h x (Claim b candidates) s ≡ Ran NoInode t
    → (n : ℕ) → In n candidates → IsSome (place_in_memory n s.tables.entries)
