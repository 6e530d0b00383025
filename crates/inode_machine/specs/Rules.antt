-- What a hart has, what always holds, and the machine.
use Rattle.std.specs.Prelude.{◌≡◌, ◌≢◌, ◌⊎◌, ℕ, zero, suc, ◌+◌, ◌*◌, ◌<◌, ◌≤◌, Bool, true, false, ◌||◌, List, [], ◌∷◌, length, ◌==◌, nat_lt, if◌then◌else◌, Option, Some, None, IsSome}
use Rattle.image_versions.specs.Shared.{most_content_blocks}
use Rattle.image_versions.specs.declared.version.Version.{Version}
use Rattle.inode_machine.specs.Vocabulary.{Node, OpenFile, Directory, hart_count, descriptor_count, name_len_of, piece_len, count_limit, is_file, no_driver, holds_raised, Name, hold_names, is_directory, is_live, look, Key, Row, row_of, key_names, sum_below, one_if, IsWellFormed, Walk, Machine, Stage, MoveStep as Step}
use Rattle.inode_machine.specs.Basics.{OfDirectory, type_of, Query, Mine, Entry, Note, Desk, World, Op, Answer, Mark, Outside, stage_of, file_count, is_at, is_free, place_count, referenced, entry_of, offset_of, read_refused, next_used, child_of, given_of, TakesMove}
use Rattle.inode_machine.specs.Inodes.Query.{AtNothing, AtName, AtEntries}
use Rattle.inode_machine.specs.World.Op.{Take, UnlockInode, UpStart, Up, WalkDown, Down, Free, Forget, Claim, Store, Fill, Enter, Clear, Empty, Slot, Install, StatFile, LockFile, ReadFile, CheckFile, JoinFile, LockOpen, WriteFile, Double, Shut, SetDirectory, Lend, LendDirectory, Release, Join, Leave, Say}
use Rattle.inode_machine.specs.World.Outside.{Room, RoomFor, Picks}
use Rattle.inode_machine.specs.Marks.{go, places}

-- all that is an inode's
pub record Held : Type 0 where
  pub disk : Option Node
  pub node : Option Node
  pub alone : Bool
  pub locked : Bool

abbrev pub is_hart : Option ℕ → ℕ → Bool
is_hart None h = false
is_hart (Some g) h = g == h

abbrev pub view : World → ℕ → ℕ → Held
view w h i = record { disk = w.disk i; node = w.all.nodes i; alone = w.alone i; locked = is_hart (w.lock i) h }

abbrev pub key_in : (ℕ → Option Key) → Option ℕ → Option Key
key_in keys None = None
key_in keys (Some i) = keys i

-- named by the hart itself: its current directory and the one that it leaves, its hold, and what it is opening
abbrev pub own_names : Row → Desk → ℕ → Bool
own_names r d n = (r.cwd == n) || (hold_names r.hold n || (key_names (key_in r.keys d.opening) n || is_at d.left n))

abbrev pub if_kept : {A : Type 0} → Option ℕ → ℕ → A → Option A
if_kept None h x = None
if_kept (Some g) h x = if g == h then Some x else None

-- all that is a hart's
pub record Own : Type 0 where
  pub inodes : ℕ → Option Held
  pub mine : Mine
  pub row : Row
  pub ninodes : ℕ
  pub desk : Desk

abbrev pub own_of : ℕ → World → Own
own_of h w = record {
  inodes = λ i. if_kept (w.keeper i) h (view w h i);
  mine = w.harts h;
  row = row_of w.all h;
  ninodes = w.all.ninodes;
  desk = w.desks h;
}

abbrev pub nothing : {A : Type 0} → ℕ → Option A
nothing i = None

-- no lock, no transaction, no inode to free; the references of its descriptors and of its current directory alone
pub record Rests (O : Own) : Type 0 where
  pub inodes : O.inodes ≡ nothing
  pub refs : (i : ℕ) → O.mine.refs i ≡ one_if (O.desk.directory == i)
  pub walk : O.mine.walk ≡ None
  pub pending : O.mine.pending ≡ None
  pub hold : O.row.hold ≡ None
  pub hand : O.desk.hand ≡ None
  pub joined : O.desk.joined ≡ false
  pub lent : O.desk.lent ≡ nothing
  pub opening : O.desk.opening ≡ None
  pub left : O.desk.left ≡ None
  pub noted : O.desk.noted ≡ None

abbrev pub Idle : ℕ → World → Type 0
Idle h w = Rests (own_of h w)

-- a descriptor of the hart keeps the type of what is open by it. If the hart keeps the inode, it is the same open
-- file, with its offset
abbrev pub KeepsFiles : ℕ → World → World → Type 0
KeepsFiles h v w =
    (i k : ℕ) (e : Entry) → h < hart_count → i < descriptor_count → (v.desks h).fds i ≡ Some k → v.files k ≡ Some e
    → (f : Entry) × (w.files k ≡ Some f) × (f.inode_type ≡ e.inode_type) × (v.keeper e.file.number ≡ Some h → f.file ≡ e.file)

-- What a hart has stays while the others step. A hart to which another one hands its descriptors gets them, and rests still.
pub record Others (h : ℕ) (v : World) (xs : List Step) (w : World) : Type 0 where
  pub none : xs ≡ []
  pub same : (v.desks h).lender ≡ None → own_of h w ≡ own_of h v
  pub opens : (v.desks h).lender ≡ None → KeepsFiles h v w
  pub rests : Idle h v → Idle h w
  pub clean : w.clean ≡ true → v.clean ≡ true

-- hart g keeps a directory that has inode n under a name
pub record Found (keeper : ℕ → Option ℕ) (nodes : ℕ → Option Node) (g n : ℕ) : Type 0 where
  pub directory : ℕ
  pub name : Name
  pub keeps : keeper directory ≡ Some g
  pub finds : look nodes directory name ≡ Some n

-- a descriptor of the hart has an open file of the inode
pub record Opens (fds : ℕ → Option ℕ) (files : ℕ → Option Entry) (n : ℕ) : Type 0 where
  pub fd : ℕ
  pub below : fd < descriptor_count
  pub slot : ℕ
  pub is : fds fd ≡ Some slot
  pub entry : Entry
  pub at : files slot ≡ Some entry
  pub number : entry.file.number ≡ n

-- there is a reference: of a descriptor of the hart, or of the hart itself
abbrev pub IsReferredTo : (desks : ℕ → Desk) (files : ℕ → Option Entry) (harts : ℕ → Mine) (g n : ℕ) → Type 0
IsReferredTo desks files harts g n = Opens (desks g).fds files n ⊎ (0 < (harts g).refs n)

abbrev pub IsReached : World → ℕ → ℕ → Type 0
IsReached w g n = (0 < (w.harts g).refs n) ⊎ ((w.harts g).pending ≡ Some n)

-- The open-file table beside the tree's open files.

abbrev pub id_at : (ℕ → ℕ) → Option ℕ → Option ℕ
id_at ids None = None
id_at ids (Some k) = Some (ids k)

abbrev pub number_is : Option Entry → ℕ → ℕ
number_is None n = 0
number_is (Some e) n = one_if (e.file.number == n)

-- how often a hart has a slot, for itself or to hand it on
abbrev pub uses : Desk → ℕ → ℕ
uses d k = sum_below descriptor_count (λ i. one_if (is_at (d.fds i) k)) + sum_below descriptor_count (λ i. one_if (is_at (d.lent i) k))

abbrev pub users : (ℕ → Desk) → ℕ → ℕ
users desks k = sum_below hart_count (λ g. uses (desks g) k)

pub record FileTables : Type 0 where
  pub files : ℕ → Option Entry
  pub desks : ℕ → Desk
  pub ids : ℕ → ℕ
  pub slots : ℕ → ℕ
  pub clean : Bool
  pub tree_fds : ℕ → ℕ → Option ℕ
  pub tree_files : ℕ → Option OpenFile

abbrev pub file_tables_of : World → FileTables
file_tables_of w = record {
  files = w.files;
  desks = w.desks;
  ids = w.ids;
  slots = w.slots;
  clean = w.clean;
  tree_fds = w.all.fds;
  tree_files = w.all.files;
}

-- what the tree has opened and the table not yet: nobody else has it, and its offset is 0
pub record IsOpening (s : FileTables) (g i : ℕ) : Type 0 where
  pub below : i < descriptor_count
  pub free : (s.desks g).fds i ≡ None
  pub id : ℕ
  pub is : s.tree_fds g i ≡ Some id
  pub file : OpenFile
  pub at : s.tree_files id ≡ Some file
  pub offset : file.offset ≡ 0
  pub only : (j l : ℕ) → j < hart_count → l < descriptor_count → s.tree_fds j l ≡ Some id → (j ≡ g) × (l ≡ i)

pub record IsTied (s : FileTables) : Type 0 where
  -- a hart's descriptors are the tree's, but for what it is opening
  pub fds : (g i : ℕ) → g < hart_count → i < descriptor_count → is_at (s.desks g).opening i ≡ false
      → s.tree_fds g i ≡ id_at s.ids ((s.desks g).fds i)
  pub fresh : (g i : ℕ) → g < hart_count → (s.desks g).opening ≡ Some i → IsOpening s g i
  pub used : (g i k : ℕ) → g < hart_count → i < descriptor_count → (s.desks g).fds i ≡ Some k → (e : Entry) × (s.files k ≡ Some e)
  -- what is handed on the hart has still
  pub lends : (g i k : ℕ) → g < hart_count → i < descriptor_count → (s.desks g).lent i ≡ Some k → (s.desks g).fds i ≡ Some k
  -- a slot in hand has no open file, and one hart has it
  pub hand : (g k : ℕ) → g < hart_count → (s.desks g).hand ≡ Some k → (k < file_count) × (s.files k ≡ None)
  pub hands : (g j k : ℕ) → g < hart_count → j < hart_count → (s.desks g).hand ≡ Some k → (s.desks j).hand ≡ Some k → g ≡ j
  pub within : (k : ℕ) (e : Entry) → s.files k ≡ Some e → k < file_count
  -- a slot's open file is the tree's, with its offset; no two slots have one
  pub files : (k : ℕ) (e : Entry) → s.files k ≡ Some e → s.tree_files (s.ids k) ≡ Some e.file
  pub apart : (k l : ℕ) (e f : Entry) → s.files k ≡ Some e → s.files l ≡ Some f → s.ids k ≡ s.ids l → k ≡ l
  pub counted : (k : ℕ) (e : Entry) → s.files k ≡ Some e → (e.references ≡ users s.desks k) × (0 < e.references)
  pub slots : (n : ℕ) → s.slots n ≡ sum_below file_count (λ k. number_is (s.files k) n)
  pub spoiled : (g : ℕ) → (s.desks g).full ≡ true → s.clean ≡ false

-- kept by one hart, which has all the references to it
pub record IsAlone (keeper : ℕ → Option ℕ) (nodes : ℕ → Option Node) (refs : ℕ → ℕ) (harts : ℕ → Mine) (i : ℕ) : Type 0 where
  pub hart : ℕ
  pub kept : keeper i ≡ Some hart
  pub dead : is_live (nodes i) ≡ false
  pub counts : refs i ≡ (harts hart).refs i

abbrev pub left_or : Option ℕ → ℕ → ℕ
left_or None d = d
left_or (Some k) d = k

-- The directory that the hart refers to is the tree's, or the one that it leaves, unless it gets another's; and is one.
pub record Stands (d : Desk) (cwd : ℕ) (nodes : ℕ → Option Node) : Type 0 where
  pub at : d.lender ≡ None → d.directory ≡ left_or d.left cwd
  pub inode_type : type_of (nodes d.directory) ≡ Some OfDirectory

-- how often a hart refers to an inode at most: for its current directory, its walk, its list, and what its call has found or claimed
abbrev pub reference_limit : ℕ
reference_limit = 8

-- A hart refers to no inode more often, and to its current directory.
pub record References (m : Mine) (d : Desk) : Type 0 where
  pub few : (i : ℕ) → m.refs i ≤ reference_limit
  pub home : 0 < m.refs d.directory

-- What a hart has of its lender's by this moment. It has no descriptor yet, and its own directory. Or it has the
-- descriptors, and in the tree the lender's directory, to which only that refers; or its directory too.
abbrev pub Has : (given : Option ℕ) (fds : ℕ → Option ℕ) (cwd mine lenders : ℕ) → Type 0
Has None fds cwd mine lenders = ((i : ℕ) → i < descriptor_count → fds i ≡ None) × (cwd ≡ mine)
Has (Some zero) fds cwd mine lenders = cwd ≡ lenders
Has (Some (suc k)) fds cwd mine lenders = cwd ≡ mine

-- Hart g gets the descriptors and the directory of hart c, and rests.
pub record Lends (w : World) (c g : ℕ) : Type 0 where
  pub hart : c < hart_count
  pub free : (w.desks c).lender ≡ None
  pub child : child_of (w.desks c) ≡ Some g
  pub rests : Idle g w
  pub has : Has (given_of (w.desks c)) (w.desks g).fds (w.all.cwd g) (w.desks g).directory (w.desks c).directory

-- An open file has its inode's type, and one to write to is no directory.
pub record HasType (nodes : ℕ → Option Node) (e : Entry) : Type 0 where
  pub inode_type : type_of (nodes e.file.number) ≡ Some e.inode_type
  pub written : e.file.writable ≡ true → e.inode_type ≢ OfDirectory

pub record Inv (w : World) : Type 0 where
  -- the tree before it settles is well formed
  pub well : IsWellFormed w.all
  pub ids : (k : ℕ) → w.next ≤ k → w.all.files k ≡ None
  -- if nobody keeps an inode its record is its node
  pub whole : (i : ℕ) → w.keeper i ≡ None → w.disk i ≡ w.all.nodes i
  -- and if its keeper is in no transaction
  pub quiet : (i g : ℕ) → w.keeper i ≡ Some g → (w.desks g).joined ≡ false → w.disk i ≡ w.all.nodes i
  -- who has the lock keeps it
  pub keeps : (i g : ℕ) → w.lock i ≡ Some g → w.keeper i ≡ Some g
  -- who keeps it has a reference
  pub kept : (i g : ℕ) → w.keeper i ≡ Some g → (g < hart_count) × IsReferredTo w.desks w.files w.harts g i
  -- by its lock, or alone
  pub held : (i g : ℕ) → w.keeper i ≡ Some g → (w.lock i ≡ Some g) ⊎ (w.alone i ≡ true)
  pub alone : (i : ℕ) → w.alone i ≡ true → IsAlone w.keeper w.all.nodes w.refs w.harts i
  -- each reference is of a hart or of an open file
  pub counts : (i : ℕ) → w.refs i ≡ w.slots i + sum_below hart_count (λ g. (w.harts g).refs i)
  pub refers : (g : ℕ) → g < hart_count → References (w.harts g) (w.desks g)
  pub tied : IsTied (file_tables_of w)
  pub inode_types : (k : ℕ) (e : Entry) → w.files k ≡ Some e → HasType w.all.nodes e
  -- a hart refers to each inode that it names itself, or that inode is in a directory that the hart keeps; unless it
  -- gets another's
  pub named : (g i : ℕ) → g < hart_count → (w.desks g).lender ≡ None → own_names (row_of w.all g) (w.desks g) i ≡ true → IsReached w g i
  pub pending : (g i : ℕ) → g < hart_count → (w.harts g).pending ≡ Some i → Found w.keeper w.all.nodes g i
  pub walks : (g : ℕ) (k : Walk) → g < hart_count → (w.harts g).walk ≡ Some k → IsReached w g k.at
  -- while it refers to what it found, and doesn't free it, that has the type that it had
  pub noted : (g : ℕ) (n : Note) → g < hart_count → (w.desks g).noted ≡ Some n → IsReached w g n.number → w.alone n.number ≡ false
      → type_of (w.all.nodes n.number) ≡ n.inode_type
  pub directory : (g : ℕ) → g < hart_count → Stands (w.desks g) (w.all.cwd g) w.all.nodes
  -- who has raised a count for a link that is under way is in a transaction
  pub raised : (g : ℕ) → g < hart_count → holds_raised true (w.all.holds g) ≡ true → (w.desks g).joined ≡ true
  pub lent : (g c : ℕ) → g < hart_count → (w.desks g).lender ≡ Some c → Lends w c g
  pub serves : (c g : ℕ) → c < hart_count → child_of (w.desks c) ≡ Some g → (g < hart_count) × ((w.desks g).lender ≡ Some c)

-- in another hart's hand
abbrev pub IsOut : ℕ → Option ℕ → Type 0
IsOut h o = (g : ℕ) × (g ≢ h) × (o ≡ Some g)

-- An operation waits only if the lock that it takes is another hart's.

abbrev pub EntryOut : ℕ → World → Option Entry → Type 0
EntryOut h w None = ⊥
EntryOut h w (Some e) = IsOut h (w.lock e.file.number)

abbrev pub MayWait : ℕ → Op → World → Type 0
MayWait h (Take n looking) w = IsOut h (w.lock n)
MayWait h (StatFile fd) w = EntryOut h w (entry_of w h fd)
MayWait h (LockFile fd) w = EntryOut h w (entry_of w h fd)
MayWait h (LockOpen fd n) w = IsOut h (w.lock n)
MayWait h op w = ⊥

-- the most bytes that a call may ask for
abbrev pub asked_limit : ℕ
asked_limit = 524288

-- bytes, none of them zero or "/"
abbrev pub IsText : List ℕ → Type 0
IsText [] = Unit {0}
IsText (b ∷ bs) = (0 < b) × (b ≢ 47) × (b < 256) × IsText bs

-- a name that an entry can have
pub record IsName (version : Version) (e : Name) : Type 0 where
  pub some : 0 < length e
  pub fits : length e ≤ name_len_of version
  pub text : IsText e

-- what is looked for is a name
abbrev pub Sought : Version → Query → Type 0
Sought version AtNothing = Unit {0}
Sought version (AtName e) = IsName version e
Sought version AtEntries = Unit {0}

-- What an operation asks. Who locks an inode refers to it, and hasn't locked it. If its lock is free it has a record,
-- and what is looked for in it is a name. Who refers to one more has found it in a directory that it keeps. Who gives
-- a reference up, to none or to a table, has one besides its current directory's, and keeps none that it drops. Who
-- frees an inode has the one reference to it, and it has no links; who forgets it has freed it, and keeps it. Who
-- changes an inode has its lock and has joined. Who joins, leaves, opens by a descriptor or replies has no lock. Who
-- leaves has raised no count for which there is no name yet. Who hands a descriptor on has handed on none from there,
-- and if it has none hands the directory on at once. Who hands that on, or lets a child go, has no descriptor on its
-- way. A record is changed that is there, and of the operation's kind, and a name is entered in a directory with
-- links. As much is read as a call may ask for, of the inode that its descriptor has, from the file's offset on. A
-- piece is written there to a file. Who shuts a descriptor hands none on.

abbrev pub Locks : ℕ → ℕ → World → Type 0
Locks h n w = w.lock n ≡ Some h

abbrev pub LocksNone : ℕ → World → Type 0
LocksNone h w = (i : ℕ) → w.lock i ≢ Some h

abbrev pub Changes : ℕ → ℕ → World → Type 0
Changes h n w = (w.lock n ≡ Some h) × ((w.desks h).joined ≡ true)

abbrev pub Refers : ℕ → ℕ → World → Type 0
Refers h n w = (0 < (w.harts h).refs n) × (w.lock n ≢ Some h)

-- a reference in hand, which no table has
abbrev pub Spares : ℕ → ℕ → World → Type 0
Spares h n w = one_if ((w.desks h).directory == n) < (w.harts h).refs n

-- it hands its own to this child
abbrev pub Serves : ℕ → ℕ → World → Type 0
Serves h child w = (child < hart_count) × ((w.desks child).lender ≡ Some h)

-- no descriptor is on its way
abbrev pub LendsNone : ℕ → World → Type 0
LendsNone h w = (i : ℕ) → i < descriptor_count → (w.desks h).lent i ≡ None

-- an inode has a record, of this kind
pub record HasRecord (n : ℕ) (w : World) (P : Node → Type 0) : Type 0 where
  pub node : Node
  pub is : w.disk n ≡ Some node
  pub fits : P node

-- an inode's number
abbrev pub IsNumber : ℕ → World → Type 0
IsNumber n w = (1 ≤ n) × (n < w.all.ninodes)

-- the file that a descriptor names is at this offset
abbrev pub StandsAt : ℕ → ℕ → ℕ → World → Type 0
StandsAt h fd offset w = offset_of (entry_of w h fd) ≡ offset

-- a descriptor is open to read, of this inode
pub record Reads (h fd n : ℕ) (w : World) : Type 0 where
  pub entry : Entry
  pub at : entry_of w h fd ≡ Some entry
  pub number : entry.file.number ≡ n
  pub readable : read_refused (Some entry) ≡ None

-- a descriptor is open to write, of this inode
pub record Writes (h fd n : ℕ) (w : World) : Type 0 where
  pub entry : Entry
  pub at : entry_of w h fd ≡ Some entry
  pub number : entry.file.number ≡ n
  pub writable : entry.file.writable ≡ true

-- of all harts and open files it alone refers to an inode, and once
abbrev pub HasLast : ℕ → ℕ → World → Type 0
HasLast h n w = (w.refs n ≡ 1) × ((w.harts h).refs n ≡ 1)

-- it has freed the inode, and nobody else can reach that
abbrev pub HasFreed : ℕ → ℕ → World → Type 0
HasFreed h n w = (w.keeper n ≡ Some h) × (w.disk n ≡ None)

abbrev pub Asks : Version → ℕ → Op → World → Type 0
Asks version h (Take n looking) w = Refers h n w × (w.lock n ≡ None → w.disk n ≢ None) × Sought version looking
Asks version h (UnlockInode n) w = Locks h n w
Asks version h (UpStart absolute) w = LocksNone h w
Asks version h (Up n) w = Found w.keeper w.all.nodes h n
Asks version h (WalkDown n) w = Spares h n w × (w.keeper n ≢ Some h)
Asks version h (Down n) w = Spares h n w × (w.keeper n ≢ Some h)
Asks version h (Free n) w = Changes h n w × HasRecord n w (λ v. v.count ≡ 0) × HasLast h n w
Asks version h (Forget n) w = Spares h n w × (w.lock n ≢ Some h) × HasFreed h n w
Asks version h (Claim inode_type) w = (w.desks h).joined ≡ true
Asks version h (Store n count) w = Changes h n w × HasRecord n w (λ v. (count ≤ count_limit) ⊎ (count ≤ v.count))
Asks version h (Fill n d) w = Changes h n w × HasRecord n w (λ v. v.kind ≡ Directory []) × IsNumber d w
Asks version h (Enter d e n) w =
    Changes h d w × HasRecord d w (λ v. (is_directory v.kind ≡ true) × (0 < v.count)) × IsNumber n w × IsName version e
Asks version h (Clear d e) w = Changes h d w × HasRecord d w (λ v. IsSome (look (λ i. Some v) d e))
Asks version h (Empty n) w = Changes h n w × HasRecord n w (λ v. is_file v.kind ≡ true)
Asks version h Slot w = (w.desks h).hand ≡ None
Asks version h (Install f inode_type) w = ((w.desks h).hand ≢ None) × (f.offset ≡ 0) × Spares h f.number w
Asks version h (StatFile fd) w = LocksNone h w
Asks version h (LockFile fd) w = LocksNone h w
Asks version h (ReadFile fd n offset count) w =
    Locks h n w × Reads h fd n w × StandsAt h fd offset w × HasRecord n w (λ v. no_driver v.kind ≡ None) × (count ≤ asked_limit)
Asks version h (CheckFile fd) w = Unit {0}
Asks version h (JoinFile fd) w = LocksNone h w × ((w.desks h).joined ≡ false)
Asks version h (LockOpen fd n) w = LocksNone h w × Writes h fd n w
Asks version h (WriteFile fd n offset bytes) w =
    Changes h n w × Writes h fd n w × StandsAt h fd offset w × HasRecord n w (λ v. is_file v.kind ≡ true) × (length bytes ≤ piece_len)
Asks version h (Double fd) w = Unit {0}
Asks version h (Shut fd) w = LocksNone h w × ((w.desks h).lent ≡ nothing)
Asks version h (SetDirectory n) w = Locks h n w × Spares h n w
Asks version h (Lend child from) w = Serves h child w × (given_of (w.desks h) ≡ None)
    × ((i : ℕ) → from ≤ i → i < descriptor_count → (w.desks h).lent i ≡ None) × (next_used from (w.desks h).fds ≡ None → from ≡ 0)
Asks version h (LendDirectory child) w = Serves h child w × LendsNone h w
Asks version h (Release child) w = Serves h child w × LendsNone h w
Asks version h Join w = LocksNone h w × ((w.desks h).joined ≡ false)
Asks version h Leave w = LocksNone h w × ((w.desks h).joined ≡ true) × (holds_raised true (w.all.holds h) ≡ false)
Asks version h Say w = LocksNone h w × ((w.desks h).joined ≡ false)

-- and that the hart gets nothing from another one
abbrev pub May : Version → ℕ → Op → World → Type 0
May version h op w = ((w.desks h).lender ≡ None) × Asks version h op w

-- What may be so outside: an inode that is found is free, and one has no place only if all are taken; of a piece a
-- part is left over. All else may be short of room at any time.

abbrev pub HonestClaim : World → Outside → Type 0
HonestClaim w Room = Unit {0}
HonestClaim w (RoomFor k) = nat_lt (referenced w) place_count ≡ false
HonestClaim w (Picks n) = (1 ≤ n) × (n < w.all.ninodes) × (is_free w n ≡ true)

abbrev pub HonestPiece : List ℕ → Outside → Type 0
HonestPiece b Room = Unit {0}
HonestPiece b (RoomFor k) = k < length b
HonestPiece b (Picks n) = ⊥

abbrev pub Honest : ℕ → Op → World → Outside → Type 0
Honest h (Claim inode_type) w x = HonestClaim w x
Honest h (WriteFile fd n offset bytes) w x = HonestPiece bytes x
Honest h op w x = Unit {0}

-- The most steps below that an operation takes beyond one, with 3 to a touch: get, read, put. Each block of a content
-- has its table before it.

abbrev pub load_cost : ℕ
load_cost = 3

abbrev pub search_cost : ℕ
search_cost = most_content_blocks * 6

-- a content's blocks are given back, and its table
abbrev pub emptying_cost : ℕ
emptying_cost = most_content_blocks * 3 + 96

abbrev pub look_cost : ℕ
look_cost = load_cost + search_cost

abbrev pub enter_cost : ℕ
enter_cost = search_cost + 32

abbrev pub clear_cost : ℕ
clear_cost = search_cost + 12

abbrev pub looking_cost : Query → ℕ
looking_cost AtNothing = load_cost
looking_cost (AtName e) = look_cost
looking_cost AtEntries = look_cost

abbrev pub more : Op → ℕ
more (Take n looking) = looking_cost looking
more (Free n) = emptying_cost
more (Claim inode_type) = 12300
more (Store n count) = 2
more (Fill n d) = 12
more (Enter d e n) = enter_cost
more (Clear d e) = clear_cost
more (Empty n) = emptying_cost
more (StatFile fd) = 3
more (LockFile fd) = 3
more (ReadFile fd n offset count) = search_cost
more (LockOpen fd n) = 3
more (WriteFile fd n offset bytes) = 97
more Leave = 62
more op = 0

abbrev pub machine : Version → Machine
machine version =
    record {
      Op = Op;
      Answer = Answer;
      Mark = Mark;
      Step = Step;
      World = World;
      Tree = Stage;
      more = more;
      Outside = Outside;
      Honest = Honest;
      May = May version;
      go = go version;
      places = places version;
      tree = stage_of;
      Takes = TakesMove version;
      Inv = Inv;
      Halted = Inv;
      Others = Others;
      Idle = Idle;
      MayWait = MayWait;
      Clean = λ w. w.clean ≡ true;
    }
