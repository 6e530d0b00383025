-- The machine of whole inodes: its state, and its operations.
use Rattle.std.specs.Prelude.{ℕ, Bool, List, Option}
use Rattle.inode_machine.specs.Vocabulary.{Node, Cause, Action, Name, Tree, settle, OpenFile, Walk, Stage, Move}
use Rattle.inode_machine.specs.Inodes.{InodeType, Face, Query, Sight}

-- a hart's references, counted for it, and its walk
pub record Mine : Type 0 where
  pub refs : ℕ → ℕ
  pub walk : Option Walk
  pub pending : Option ℕ  -- found in a directory that it keeps, by a move, and not yet counted up

-- an open file of the table, with its inode's type, and the number of descriptors that have it
pub record Entry : Type 0 where
  pub file : OpenFile
  pub inode_type : InodeType
  pub references : ℕ

-- the type that an inode had when it was found
pub record Note : Type 0 where
  pub number : ℕ
  pub inode_type : Option InodeType

-- what a hart has of the tables
pub record Desk : Type 0 where
  -- the code's: by descriptor the slot of its open file; a slot taken for a descriptor to come; whether it has joined the transaction; its
  -- current directory
  pub fds : ℕ → Option ℕ
  pub hand : Option ℕ
  pub joined : Bool
  pub directory : ℕ
  -- descriptors that it is about to hand to a hart, and past them all which hart that is, and how much it has. And the
  -- hart that hands its own to this one, which starts nothing until then
  pub lent : ℕ → Option ℕ
  pub lender : Option ℕ
  -- for the proof: the descriptor that the tree has and the table has not yet; the directory that the tree has left
  -- and the hart has not yet. Also the type of what it found last, and whether its call found no room
  pub opening : Option ℕ
  pub left : Option ℕ
  pub noted : Option Note
  pub full : Bool

pub record World : Type 0 where
  -- the code's: each inode's record with its content as the seen blocks say it (None: type 0), inode locks, counts of references, those of
  -- open files
  pub disk : ℕ → Option Node
  pub lock : ℕ → Option ℕ
  pub refs : ℕ → ℕ
  pub slots : ℕ → ℕ
  pub files : ℕ → Option Entry  -- the open-file table
  pub desks : ℕ → Desk
  -- for the proof
  pub ids : ℕ → ℕ  -- the tree's id of a slot's open file
  pub clean : Bool  -- no call found no room
  pub harts : ℕ → Mine
  pub keeper : ℕ → Option ℕ  -- who has the lock, or an inode that nobody else can reach
  pub alone : ℕ → Bool  -- kept so: claimed and not yet entered, or to be freed
  pub next : ℕ  -- no open file has this id, or one above it
  pub all : Tree  -- the tree before it settles: every inode that has a type

abbrev pub stage_of : World → Stage
stage_of w = record { tree = settle w.all; walk = λ h. (w.harts h).walk }

-- Each operation is one step of a hart. One that takes a lock waits while that is out, and no other waits.
pub data Op : Type 0 where
  -- an inode's lock is taken, and the inode looked at; given up
  Take : ℕ → Query → Op
  UnlockInode : ℕ → Op
  -- a reference more: to a path's start (true: to the root), to what was found
  UpStart : Bool → Op
  Up : ℕ → Op
  -- a reference less. The last one to an inode without links stays: in a walk it goes on the call's list, else its lock is taken to free it
  WalkDown : ℕ → Op
  Down : ℕ → Op
  -- an inode without links or references but this one is emptied and has no type; and then that reference goes
  Free : ℕ → Op
  Forget : ℕ → Op
  -- an inode of this type, that nobody refers to
  Claim : InodeType → Op
  -- an inode's count
  Store : ℕ → ℕ → Op
  -- the two entries of a new directory, which is the first, in the second
  Fill : ℕ → ℕ → Op
  -- a directory's name with its number; a name's slot is cleared; a file has no bytes
  Enter : ℕ → Name → ℕ → Op
  Clear : ℕ → Name → Op
  Empty : ℕ → Op
  -- a slot of the table is taken; and the lowest descriptor for it, with this open file, of an inode of this type
  Slot : Op
  Install : OpenFile → InodeType → Op
  -- the lock of a descriptor's inode is taken, to tell its state; or to read of it
  StatFile : ℕ → Op
  LockFile : ℕ → Op
  -- of that inode this number of bytes is read from this offset on, the file's; the offset moves, and the lock is
  -- given up
  ReadFile : ℕ → ℕ → ℕ → ℕ → Op
  -- a descriptor to write to is looked up: for no bytes; to join a transaction
  CheckFile : ℕ → Op
  JoinFile : ℕ → Op
  -- the lock of its inode is taken: its number, and the file's offset; a piece is written, the offset moves, and the
  -- lock is given up
  LockOpen : ℕ → ℕ → Op
  WriteFile : ℕ → ℕ → ℕ → List ℕ → Op
  -- one more descriptor for a descriptor's open file; a descriptor is free
  Double : ℕ → Op
  Shut : ℕ → Op
  -- an inode's lock is given up, and it is the hart's current directory
  SetDirectory : ℕ → Op
  -- the caller's first descriptor from here on is handed on; the directory is, after the last one; the hart that has them may start again
  Lend : ℕ → ℕ → Op
  LendDirectory : ℕ → Op
  Release : ℕ → Op
  -- a transaction is joined, and left; the reply is given
  Join : Op
  Leave : Op
  Say : Op

-- a new inode, or none is free, or no place in memory is
pub data ClaimResult : Type 0 where
  New : ℕ → ClaimResult
  NoInode : ClaimResult
  NoPlace : ClaimResult

-- a name is entered, or no block is left, or the directory has all its slots
pub data EntryResult : Type 0 where
  InPlace : EntryResult
  NoBlock : EntryResult
  NoSlot : EntryResult

-- the lock was taken of this inode, and the file is at this offset; or the descriptor isn't for that
pub data LockResult : Type 0 where
  NotLocked : Cause → LockResult
  LocksIt : ℕ → ℕ → LockResult

-- the transaction is joined for this inode
pub data JoinResult : Type 0 where
  NotJoined : Cause → JoinResult
  Joined : ℕ → JoinResult

-- a piece was written, refused, or so many bytes of it were written, since no block was left
pub data Wrote : Type 0 where
  Whole : Wrote
  Refused : Cause → Wrote
  Short : ℕ → Wrote

-- a descriptor was handed on, and whether more are to come; or there was none, and the directory was: the old one's number
pub data LoanResult : Type 0 where
  Lent : ℕ → Bool → LoanResult
  Moved : ℕ → LoanResult

abbrev pub Answer : Op → Type 0
Answer (Take n looking) = Sight
Answer (UnlockInode n) = Unit {0}
Answer (UpStart absolute) = Option ℕ
Answer (Up n) = Bool
Answer (WalkDown n) = Bool
Answer (Down n) = Bool
Answer (Free n) = Unit {0}
Answer (Forget n) = Unit {0}
Answer (Claim inode_type) = ClaimResult
Answer (Store n count) = Unit {0}
Answer (Fill n d) = Bool
Answer (Enter d e n) = EntryResult
Answer (Clear d e) = Unit {0}
Answer (Empty n) = Unit {0}
Answer Slot = Bool
Answer (Install f inode_type) = Option ℕ
Answer (StatFile fd) = Option (ℕ × Face)
Answer (LockFile fd) = LockResult
Answer (ReadFile fd n offset count) = List ℕ
Answer (CheckFile fd) = Option Cause
Answer (JoinFile fd) = JoinResult
Answer (LockOpen fd n) = ℕ × ℕ
Answer (WriteFile fd n offset bytes) = Wrote
Answer (Double fd) = Option (Option ℕ)
Answer (Shut fd) = Option (Option ℕ)
Answer (SetDirectory n) = ℕ
Answer (Lend child from) = LoanResult
Answer (LendDirectory child) = ℕ
Answer (Release child) = Unit {0}
Answer Join = Unit {0}
Answer Leave = Unit {0}
Answer Say = Unit {0}

-- What is decided outside: whether there is a block for each byte asked for, or for this number of them. And which
-- inode of those without a type is found, or that it has no place in memory.
pub data Outside : Type 0 where
  Room : Outside
  RoomFor : ℕ → Outside
  Picks : ℕ → Outside

-- The mark of an operation. It makes a move of the tree. Or it frees an inode's node. Or a new inode stays without a
-- name, and its node is one of the tree before that settles, as any other that is dead. Or it finds no room, and from
-- then on no one list explains the run. Then nothing was taken in the tree, or what the call's steps took is given
-- back, or a step acts as far as there was room.
pub data Mark : Type 0 where
  Makes : Move → Mark
  Frees : ℕ → Mark
  Orphans : ℕ → Mark
  Fills : Mark
  Mends : Mark
  Spoils : Action → Mark
