-- What a call's program asks for, by what it did before.
use Rattle.std.proofs.Common.{inl, inr}
use Rattle.std.specs.Prelude.{◌≡◌, ◌⊎◌, ◌<◌, ◌≤◌, ℕ, ◌+◌, Bool, true, false, nat_lt, List, [], ◌∷◌, ◌++◌, length, Option, Some, None}
use Rattle.image_versions.specs.declared.version.Version.{Version}
use Rattle.image_versions.specs.Versions.{name_len_of}
use Rattle.inode_machine.specs.Vocabulary.{Call, Read, Write, Reply, Full, MemInodes, Name, piece, piece_count, Do, unmarked}
use Rattle.inode_machine.specs.Parts.{give_up}
use Rattle.plain_tree.specs.declared.answer.Answer.{Answer as ReplyAnswer}
use Rattle.plain_tree.specs.declared.answer.Answer.TheVariants as answers
use Rattle.call_programs.specs.Changes.{Change, Sighting, Stands, changed_by, seen_by}
use Rattle.call_programs.specs.Wanted.{wanted, wanted_to_claim, wanted_unless}
use Rattle.inode_machine.specs.Basics.{AtEntries, AtName, AtNothing, Query, Sight, face_or, OfDirectory, OfFile, InodeType, ClaimResult, LocksIt, New, Op, Answer, Mark, P}
use Rattle.inode_machine.specs.Programs.{program}
use Rattle.inode_machine.specs.Rooms.{says_no_room}
use Rattle.inode_machine.specs.World.Mark.{Makes, Frees, Orphans, Fills, Mends, Spoils}
use Rattle.inode_machine.specs.World.Op.{Take, UnlockInode, UpStart, Up, WalkDown, Down, Free, Forget, Claim, Store, Fill, Enter, Clear, Empty, StatFile, LockFile, LockOpen, WriteFile, JoinFile, Join}
use Rattle.call_programs.specs.Along.{Along}

-- ---- what it did before

-- the inodes that it has counted up and not down again, and the one that it counted up last, in the operation before
pub record Held : Type 0 where
  pub has : List ℕ
  pub last : Option ℕ

-- the inodes of whose records its transaction may record the blocks, and how many blocks that may record in all
pub record Spending : Type 0 where
  pub named : List ℕ
  pub bound : ℕ

-- the room that an operation wanted last and didn't find; or that a claim gave it an inode whose lock it had
pub data Wants : Type 0 where
  Nothing : Wants
  Lacks : Full → Wants
  Excused : Wants

-- None: what it holds isn't followed further, because it has done more than count, look and store
pub record Before : Type 0 where
  pub held : Option Held
  pub spending : Spending
  pub wants : Wants
  -- the inode whose lock the operation before took, as it was seen; and what its operations have changed
  pub seen : Option Sighting
  pub changed : List Change

abbrev pub fresh : Spending
fresh = record { named = []; bound = 1 }

-- it holds these, of which none was counted up in the operation before; or what it holds isn't followed
abbrev pub sighting : List ℕ → Spending → Option Sighting → List Change → Before
sighting has b seen cs = record { held = Some (record { has = has; last = None }); spending = b; wants = Nothing; seen = seen; changed = cs }

abbrev pub holding : List ℕ → Spending → List Change → Before
holding has b cs = sighting has b None cs

abbrev pub loose : Spending → Wants → List Change → Before
loose b w cs = record { held = None; spending = b; wants = w; seen = None; changed = cs }

abbrev pub or_still : Option Full → Wants → Wants
or_still None w = w
or_still (Some room) w = Lacks room

-- an inode was seen
abbrev pub saw : ℕ → Sight → Option Sighting
saw n a = Some (record { number = n; count = (face_or a.face).count })

abbrev pub with_more : List Change → List Change → List Change
with_more cs [] = cs
with_more cs (d ∷ ds) = cs ++ d ∷ ds

-- ---- numbers in lists

abbrev pub IsIn : ℕ → List ℕ → Type 0
IsIn n [] = ⊥
IsIn n (k ∷ ks) = (n ≡ k) ⊎ IsIn n ks

abbrev pub without : (ks : List ℕ) (n : ℕ) → IsIn n ks → List ℕ
without [] n at = []
without (k ∷ ks) n (inl is) = ks
without (k ∷ ks) n (inr at) = k ∷ without ks n at

-- ---- what may be asked

-- a transaction records ten blocks at most
abbrev pub HasRoomFor : ℕ → Type 0
HasRoomFor k = nat_lt k 11 ≡ true

-- an inode whose record may be recorded, or for which there is still room
abbrev pub MayRecord : Spending → ℕ → Type 0
MayRecord b n = IsIn n b.named ⊎ HasRoomFor (b.bound + 1)

abbrev pub naming : (b : Spending) (n : ℕ) → MayRecord b n → Spending
naming b n (inl at) = b
naming b n (inr room) = record { named = n ∷ b.named; bound = b.bound + 1 }

abbrev pub more : ℕ → Spending → Spending
more k b = record { named = b.named; bound = b.bound + k }

abbrev pub MayRecordAnd : ℕ → Spending → ℕ → Type 0
MayRecordAnd k b n = (may : MayRecord b n) × HasRoomFor ((naming b n may).bound + k)

abbrev pub IsAlike : {A : Type 0} → (A → Option Mark) → Type 0
IsAlike {A} m = (a b : A) → m a ≡ m b

abbrev pub InHand : Option Held → ℕ → Query → Type 0
InHand None n looking = ⊥
InHand (Some x) n AtNothing = IsIn n x.has
InHand (Some x) n (AtName e) = IsIn n x.has
InHand (Some x) n AtEntries = IsIn n x.has × (x.last ≡ Some n)

abbrev pub Follows : Option Held → Type 0
Follows None = ⊥
Follows (Some x) = Unit {0}

abbrev pub DropsFrom : Option Held → ℕ → Type 0
DropsFrom None n = Unit {0}
DropsFrom (Some x) n = IsIn n x.has

abbrev pub IsNew : InodeType → Type 0
IsNew t = (t ≡ OfDirectory) ⊎ (t ≡ OfFile)

abbrev pub IsShort : Version → Name → Type 0
IsShort version e = length e ≤ name_len_of version

-- a piece of what the call writes
abbrev pub IsPieceOf : Call → List ℕ → Type 0
IsPieceOf (Write fd bytes) b = (0 < length bytes) × ((i : ℕ) × (i < piece_count bytes) × (b ≡ piece bytes i))
IsPieceOf call b = ⊥

-- no room was found, by the mark
abbrev pub spoils : Option Mark → Bool
spoils None = false
spoils (Some (Makes v)) = false
spoils (Some (Frees n)) = false
spoils (Some (Orphans n)) = false
spoils (Some Fills) = true
spoils (Some Mends) = true
spoils (Some (Spoils s)) = true

-- ---- after an operation

abbrev pub still : Option Held → Option Held
still None = None
still (Some x) = Some (record { has = x.has; last = None })

abbrev pub up : ℕ → Bool → Option Held → Option Held
up n b None = None
up n true (Some x) = Some (record { has = n ∷ x.has; last = Some n })
up n false (Some x) = Some (record { has = x.has; last = None })

-- .. as it has counted one up, or found no place in memory
abbrev pub upped : ℕ → List ℕ → Spending → List Change → Bool → Before
upped n has b cs there =
    record { held = up n there (Some (record { has = has; last = None })); spending = b; wants = or_still (wanted_unless MemInodes there) Nothing; seen = None; changed = cs }

abbrev pub started : Option ℕ → Option Held → Option Held
started o None = None
started None (Some x) = Some (record { has = x.has; last = None })
started (Some d) (Some x) = Some (record { has = d ∷ x.has; last = None })

abbrev pub down : (n : ℕ) (h : Option Held) → DropsFrom h n → Option Held
down n None at = None
down n (Some x) at = Some (record { has = without x.has n at; last = None })

-- ---- at the end

-- the reply hands the call back, except for what was read
abbrev pub HandsBack : Call → Call → Type 0
HandsBack (Read fd buffer) given = Unit {0}
HandsBack asked given = given ≡ asked

-- if a reply says that there was no room, an operation wanted that room, and the changes are as they may be
abbrev pub Because : Call → Wants → List Change → ReplyAnswer → Type 0
Because call Nothing cs (answers.Full room) = ⊥
Because call (Lacks kind) cs (answers.Full room) = (kind ≡ room) × Stands room call cs
Because call Excused cs (answers.Full room) = room ≡ MemInodes
Because call w cs answer = Unit {0}

-- The program forgets the inode, and then gives up the inode's lock: a claim gave it an inode whose lock it had. That
-- never happens; the reply would be that there was no place in memory.
pub record GivesBack (n : ℕ) (p : P Reply) : Type 0 where
  pub rest : Unit {0} → P Reply
  pub forgets : p ≡ Do (Forget n) unmarked rest
  pub last : P Reply
  pub gives : rest tt ≡ give_up n last

abbrev pub excused : Wants → Wants
excused Nothing = Excused
excused (Lacks room) = Lacks room
excused Excused = Excused

abbrev pub wants_back : {A : Type 0} → Wants → A ⊎ Unit {0} → Wants
wants_back w (inl back) = excused w
wants_back w (inr other) = w

abbrev pub claim_wants : {A : ℕ → Type 0} → ((n : ℕ) → A n ⊎ Unit {0}) → Wants → ClaimResult → Wants
claim_wants back w (New n) = wants_back w (back n)
claim_wants back w a = or_still (wanted_to_claim a) w

-- an inode that is freed is removed from the tree, which is no change
abbrev pub MayFree : Spending → (n : ℕ) → (Unit {0} → Option Mark) → Type 0
MayFree b n m = MayRecord b n × (m ≡ (λ _. Some (Frees n)))

module _ (version : Version) (call : Call) where
  abbrev pub May : Before → (op : Op) → (Answer op → Option Mark) → (Answer op → P Reply) → Type 0
  May s (Take n looking) m k = IsAlike m ⊎ InHand s.held n looking
  May s (Up n) m k = m true ≡ None
  May s (WalkDown n) m k = DropsFrom s.held n
  May s (Down n) m k = MayRecord s.spending n
  May s (Free n) m k = MayFree s.spending n m
  May s (Claim inode_type) m k = IsNew inode_type × HasRoomFor (s.spending.bound + 1) × ((n : ℕ) → GivesBack n (k (New n)) ⊎ Unit {0})
  May s (Store n count) m k = MayRecord s.spending n
  May s (Fill n d) m k = MayRecordAnd 1 s.spending n
  May s (Enter d e n) m k = IsShort version e × MayRecordAnd 2 s.spending d
  May s (Clear d e) m k = MayRecordAnd 1 s.spending d
  May s (Empty n) m k = MayRecord s.spending n
  May s (StatFile fd) m k = IsAlike m
  May s (LockOpen fd n) m k = IsAlike m
  May s (LockFile fd) m k = Follows s.held × ((n j offset at : ℕ) → m (LocksIt n offset) ≡ m (LocksIt j at))
  May s (WriteFile fd n offset bytes) m k = IsPieceOf call bytes × MayRecordAnd 5 s.spending n
  May s op m k = Unit {0}

  -- and the mark says that there was no room exactly when the answer does
  abbrev pub Asks : Before → (op : Op) → (Answer op → Option Mark) → (Answer op → P Reply) → Type 0
  Asks s op m k = ((a : Answer op) → spoils (m a) ≡ says_no_room op a) × May s op m k

  abbrev pub held_after : (s : Before) (op : Op) (m : Answer op → Option Mark) (k : Answer op → P Reply) → Asks s op m k → Answer op → Option Held
  held_after s (Take n looking) m k is a = still s.held
  held_after s (UnlockInode n) m k is a = still s.held
  held_after s (UpStart absolute) m k is a = started a s.held
  held_after s (Up n) m k is a = up n a s.held
  held_after s (WalkDown n) m k is a = down n s.held is.1
  held_after s (Store n count) m k is a = still s.held
  held_after s Join m k is a = still s.held
  held_after s op m k is a = None

  -- A transaction begins with nothing recorded. A new inode's number isn't known before. A name may want a block and
  -- the table of such blocks, a piece's bytes four and the table.
  abbrev pub spending_after : (s : Before) (op : Op) (m : Answer op → Option Mark) (k : Answer op → P Reply) → Asks s op m k → Spending
  spending_after s Join m k is = fresh
  spending_after s (JoinFile fd) m k is = fresh
  spending_after s (Down n) m k is = naming s.spending n is.1
  spending_after s (Free n) m k is = naming s.spending n is.1.0
  spending_after s (Store n count) m k is = naming s.spending n is.1
  spending_after s (Empty n) m k is = naming s.spending n is.1
  spending_after s (Claim inode_type) m k is = more 1 s.spending
  spending_after s (Fill n d) m k is = more 1 (naming s.spending n is.1.0)
  spending_after s (Enter d e n) m k is = more 2 (naming s.spending d is.1.1.0)
  spending_after s (Clear d e) m k is = more 1 (naming s.spending d is.1.0)
  spending_after s (WriteFile fd n offset bytes) m k is = more 5 (naming s.spending n is.1.1.0)
  spending_after s op m k is = s.spending

  abbrev pub wants_after : (s : Before) (op : Op) (m : Answer op → Option Mark) (k : Answer op → P Reply) → Asks s op m k → Answer op → Wants
  wants_after s (Claim inode_type) m k is a = claim_wants is.1.2 s.wants a
  wants_after s op m k is a = or_still (wanted op a) s.wants

  abbrev pub changed_after : (s : Before) (op : Op) → (Answer op → Option Mark) → Answer op → List Change
  changed_after s (Free n) m a = s.changed
  changed_after s op m a = with_more s.changed (changed_by s.seen op a (m a))

  abbrev pub after : (s : Before) (op : Op) (m : Answer op → Option Mark) (k : Answer op → P Reply) → Asks s op m k → Answer op → Before
  after s op m k is a = record {
    held = held_after s op m k is a;
    spending = spending_after s op m k is;
    wants = wants_after s op m k is a;
    seen = seen_by op a;
    changed = changed_after s op m a;
  }

  abbrev pub Ends : Before → Reply → Type 0
  Ends s r = HandsBack call r.call × Because call s.wants s.changed r.answer

  abbrev pub AsksSo : Before → P Reply → Type 0
  AsksSo s p = Along Asks after Ends s p

-- each call's program, from an empty hand with nothing recorded
abbrev pub CallsAskSo : Version → Type 0
CallsAskSo version = (call : Call) → AsksSo version call (holding [] fresh []) (program version call)
