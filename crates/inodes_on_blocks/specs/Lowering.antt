-- The machine below as a layer under the machine of whole inodes: what a hart has in it, and what the others leave of
-- that.
use Rattle.std.specs.Prelude.{◌≡◌, ◌≢◌, ℕ, ◌<◌, List, length, Bool, true, false, Option, Some, None, is_some, slice_get, slice_index_or}
use Rattle.inodes_on_blocks.specs.Vocabulary.{Dinode, Loaded, Super, Version, count_of, is_held_by, holder_of, kept, has, Phase, Node, DirectorySlot, Name, same_name, all_slots, hart_count, descriptor_count, is_free, Machine, LowerLayer, lock_holder, LogPart, Outside, seen_of, Entry, go, if_kept, is_hart, own_of, Idle, KeepsFiles, Inv}
use Rattle.inodes_on_blocks.specs.Holds.{HoldsAt}
use Rattle.inodes_on_blocks.specs.Indexes.{IsIndexOf}
use Rattle.inodes_on_blocks.specs.Puts.{IsUntouched}
use Rattle.fs_machine.specs.Steps as steps
use Rattle.fs_machine.specs.Premises as premises
use Rattle.inode_machine.specs.World as above
use Rattle.inode_machine.specs.Rules as rules
use Rattle.inodes_on_blocks.specs.ShownTables as tables
use Rattle.inodes_on_blocks.specs.ShownTables.{loaded}
use Rattle.inodes_on_blocks.specs.Below.{World, log_of, tables_of, disk_of, inode_in, exec}
use Rattle.inodes_on_blocks.specs.Shown.{Shows, MembersShow}

-- ---- what the others leave

-- an inode whose lock hart h has stays as it is seen: its record, and the blocks that are its own
pub record KeepsInode (h i : ℕ) (v w : World) : Type 0 where
  pub lock : lock_holder i (tables_of w) ≡ Some h
  pub untouched : IsUntouched (disk_of (log_of v)) (disk_of (log_of w)) v.owner w.owner i

-- a block as it is seen, and whether its buffer is valid
abbrev pub buffer_in : LogPart → ℕ → List ℕ × Bool
buffer_in l b = (seen_of l b, is_some (kept b l.seats))

-- how far a commit is, and of which blocks
abbrev pub commit_in : LogPart → Phase × List ℕ
commit_in l = (l.phase, l.group)

-- while the hart is in a transaction the group keeps what it has
abbrev pub KeepsGroup : ℕ → LogPart → LogPart → Type 0
KeepsGroup h l m = (b k : ℕ) → slice_get l.members h ≡ Some (Some k) → has l.group b ≡ true → has m.group b ≡ true

-- what the hart has begun: how far its commit is, and which inodes are new by it
abbrev pub undertaken : ℕ → World → Option (Phase × List ℕ) × (ℕ → Bool)
undertaken h w = (if_kept w.commits h (commit_in (log_of w)), λ n. is_hart (w.new n) h)

-- it is through with all of that
pub record IsThrough (h : ℕ) (r : World) : Type 0 where
  pub commits : r.commits ≢ Some h
  pub new : (n : ℕ) → r.new n ≢ Some h

-- nothing of hart h's changed: its locks, its buffers, its transaction, its commit, its new inodes
pub record Same (h : ℕ) (v w : World) : Type 0 where
  pub inodes : (i : ℕ) → lock_holder i (tables_of v) ≡ Some h → KeepsInode h i v w
  pub no_more : (i : ℕ) → lock_holder i (tables_of w) ≡ Some h → lock_holder i (tables_of v) ≡ Some h
  pub buffers : (b : ℕ) → if_kept (holder_of b (log_of w).seats) h (buffer_in (log_of w) b)
      ≡ if_kept (holder_of b (log_of v).seats) h (buffer_in (log_of v) b)
  pub held : count_of (is_held_by h) (log_of w).seats ≡ count_of (is_held_by h) (log_of v).seats
  pub member : slice_get (log_of w).members h ≡ slice_get (log_of v).members h
  pub group : KeepsGroup h (log_of v) (log_of w)
  pub sizes : (log_of w).sizes ≡ (log_of v).sizes
  -- what it has taken
  pub taken : (b : ℕ) → if_kept (w.taken b) h (seen_of (log_of w) b) ≡ if_kept (v.taken b) h (seen_of (log_of v) b)
  pub begun : undertaken h w ≡ undertaken h v

-- the same of what is a hart's in the world above
pub record Kept (h : ℕ) (v w : above.World) : Type 0 where
  pub same : (v.desks h).lender ≡ None → own_of h w ≡ own_of h v
  pub opens : (v.desks h).lender ≡ None → KeepsFiles h v w
  pub rests : Idle h v → Idle h w

-- ---- what a hart has between two operations above

-- what it learned of an inode since it took the lock
pub data Knowledge : Type 0 where
  NothingMore : Knowledge
  -- under this name a directory has this slot
  Finds : Name → ℕ → Knowledge
  -- by this descriptor it was locked, whose open file has this offset
  Opened : ℕ → ℕ → Knowledge

-- what it has of an inode: nothing, if the lock isn't its own; the record, and what it learned; or that it has freed
-- it
pub data Had : Type 0 where
  Apart : Had
  Has : Loaded → Knowledge → Had
  Emptied : Had

abbrev pub Carry : Type 0
Carry = ℕ → Had

abbrev pub nothing : Carry
nothing i = Apart

-- the record, as the lock goes back with it
abbrev pub record_had : Had → Option Loaded
record_had Apart = None
record_had (Has l k) = Some l
record_had Emptied = None

abbrev pub has_name : Name → Option DirectorySlot → Bool
has_name e None = false
has_name e (Some s) = same_name s.name e

-- slot s is the first of this name
pub record IsFirstNamed (slots : List (Option DirectorySlot)) (e : Name) (s : ℕ) : Type 0 where
  pub below : s < length slots
  pub is : has_name e (slice_index_or slots s None) ≡ true
  pub first : (q : ℕ) → q < s → has_name e (slice_index_or slots q None) ≡ false

-- what was learned is so still
abbrev pub IsKnown : Knowledge → Option Node → Type 0
IsKnown NothingMore v = Unit {0}
IsKnown (Finds e s) v = IsFirstNamed (all_slots v) e s
IsKnown (Opened fd offset) v = Unit {0}

-- a descriptor of the hart has the inode open, at this offset
pub record HasOpen (h i fd offset : ℕ) (w : above.World) : Type 0 where
  pub hart : h < hart_count
  pub below : fd < descriptor_count
  pub slot : ℕ
  pub is : (w.desks h).fds fd ≡ Some slot
  pub entry : Entry
  pub at : w.files slot ≡ Some entry
  pub number : entry.file.number ≡ i
  pub offset_is : entry.file.offset ≡ offset

abbrev pub IsOpened : ℕ → ℕ → Had → above.World → Type 0
IsOpened h i Apart w = Unit {0}
IsOpened h i (Has d NothingMore) w = Unit {0}
IsOpened h i (Has d (Finds e s)) w = Unit {0}
IsOpened h i (Has d (Opened fd offset)) w = HasOpen h i fd offset w
IsOpened h i Emptied w = Unit {0}

-- what it has of an inode whose lock it has
abbrev pub IsLoaded : Version → Had → Option Node → Dinode → Type 0
IsLoaded version Apart v d = ⊥
IsLoaded version (Has l k) v d = (l.inode ≡ d) × (v ≢ None) × IsKnown k v × IsIndexOf version l.index v
IsLoaded version Emptied v d = (v ≡ None) × (is_free d ≡ true)

-- an inode whose lock it has: it keeps that above, and the blocks hold what that is above
pub record InHand (h i : ℕ) (had : Had) (r : World) (w : above.World) : Type 0 where
  pub keeps : w.keeper i ≡ Some h
  pub loaded_is : IsLoaded (log_of r).sizes.version had (w.disk i) (inode_in (log_of r) i)
  pub holds : HoldsAt (disk_of (log_of r)) r.owner i (w.disk i)
  pub opened : IsOpened h i had w

pub record Base (h : ℕ) (r : World) (w : above.World) (c : Carry) : Type 0 where
  -- no buffer, no block that no inode names, no commit, and no new inode
  pub free : count_of (is_held_by h) (log_of r).seats ≡ 0
  pub taken : (b : ℕ) → r.taken b ≢ Some h
  pub through : IsThrough h r
  pub inodes : (i : ℕ) → lock_holder i (tables_of r) ≡ Some h → InHand h i (c i) r w
  -- a hart that gets another's descriptors has nothing
  pub lent : ((w.desks h).lender ≡ None → ⊥) → Idle h w

-- the same on a disk of these sizes, by which the programs below find blocks
abbrev pub Stands : Super → ℕ → World → above.World → Carry → Type 0
Stands sizes h r w c = Base h r w c × ((log_of r).sizes ≡ sizes)

-- what is shown once the world has stopped: the tables, and who is in a transaction
pub record ShowsStopped (r : World) (w : above.World) : Type 0 where
  pub tables : tables.Shows (tables_of r) w (loaded (tables_of r))
  pub members : MembersShow (log_of r).members w.desks

abbrev pub below : Super → LowerLayer above.World
below sizes =
    record {
      Op = steps.Op;
      Answer = steps.Answer;
      World = World;
      Outside = Outside;
      Honest = λ h op w x. premises.Honest h op w.state x;
      May = λ h op w. premises.May h op w.state;
      exec = exec;
      MayWait = λ h op w. premises.MayWait h op w.state;
      Shows = Shows;
      Halted = ShowsStopped;
      Same = Same;
      Kept = Kept;
      Carry = Carry;
      none = nothing;
      Base = Stands sizes;
    }

-- ---- the machine above, with any history

-- what a history of the calls adds to the machine; no program below knows of it
pub record Labels : Type 1 where
  pub Step : Type 0
  pub Tree : Type 0
  pub places : ℕ → (op : above.Op) → above.Answer op → Option above.Mark → above.World → List (ℕ × Step)
  pub tree : above.World → Tree
  pub Takes : Tree → ℕ → Step → Tree → Type 0
  pub Others : ℕ → above.World → List Step → above.World → Type 0
  pub Clean : above.World → Type 0

abbrev pub labelled : Version → Labels → Machine
labelled version l =
    record {
      Op = above.Op;
      Answer = above.Answer;
      Mark = above.Mark;
      Step = l.Step;
      World = above.World;
      Tree = l.Tree;
      more = rules.more;
      Outside = above.Outside;
      Honest = rules.Honest;
      May = rules.May version;
      go = go version;
      places = l.places;
      tree = l.tree;
      Takes = l.Takes;
      Inv = Inv;
      Halted = Inv;
      Others = l.Others;
      Idle = Idle;
      MayWait = rules.MayWait;
      Clean = l.Clean;
    }

-- what a history says the others leave has in it what the programs below need
abbrev pub Keeps : Labels → Type 0
Keeps l = (h : ℕ) (v w : above.World) (xs : List l.Step) → l.Others h v xs w → Kept h v w
