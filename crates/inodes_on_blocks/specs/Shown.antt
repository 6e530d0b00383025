-- What the machine below shows of the world of whole inodes, each part over the fields that it speaks of.
use Rattle.std.specs.Prelude.{◌≡◌, ◌≢◌, ℕ, ◌<◌, ◌≤◌, List, length, Bool, true, Option, Some, None, IsSome, if◌then◌else◌}
use Rattle.inodes_on_blocks.specs.Vocabulary.{Loaded, Super, IsBytes, IsOutsideLog, Phase, Open, Halted, IsData, largest_size, is_free, Node, hart_count, LogPart, seen_of, IsWholeLog, Desk, Entry, is_dead}
use Rattle.inode_machine.specs.World as above
use Rattle.inodes_on_blocks.specs.ShownTables as tables
use Rattle.inodes_on_blocks.specs.ShownTables.{loaded}
use Rattle.inodes_on_blocks.specs.OnBlocks.{is_joined, Ghost, AreOnBlocks}
use Rattle.inodes_on_blocks.specs.Indexes.{IsIndexOf}
use Rattle.inodes_on_blocks.specs.Below.{World, log_of, tables_of, inode_in}

-- ---- transactions

abbrev pub MembersShow : List (Option ℕ) → (ℕ → Desk) → Type 0
MembersShow members desks = (g : ℕ) → g < hart_count → (desks g).joined ≡ is_joined members g

-- ---- inodes on the blocks

-- the hart that may be changing an inode: it has the lock, and is in a transaction
abbrev pub if_joined : (ℕ → Desk) → Option ℕ → Option ℕ
if_joined desks None = None
if_joined desks (Some g) = if (desks g).joined then Some g else None

abbrev pub ghost_of : (ℕ → ℕ) → (ℕ → Bool) → (ℕ → Option Node) → (ℕ → Option ℕ) → (ℕ → Desk) → Ghost
ghost_of owner left nodes lock desks = record { nodes = nodes; owner = owner; left = left; changing = λ i. if_joined desks (lock i) }

-- an inode that a hart has claimed has no node on the blocks before its record is put
abbrev pub unless_new : Option ℕ → Option Node → Option Node
unless_new None v = v
unless_new (Some h) v = None

abbrev pub on_blocks : (ℕ → Option ℕ) → (ℕ → Option Node) → ℕ → Option Node
on_blocks new nodes n = unless_new (new n) (nodes n)

-- Until then its record is free, and not loaded; that hart keeps it, which is in a transaction, and nobody has its
-- lock.
pub record IsNew (n h : ℕ) (l : LogPart) (lock keeper : ℕ → Option ℕ) (load : ℕ → Option Loaded) : Type 0 where
  pub low : 1 ≤ n
  pub bound : n < l.sizes.ninodes
  pub free : is_free (inode_in l n) ≡ true
  pub unlocked : lock n ≡ None
  pub kept : keeper n ≡ Some h
  pub joined : is_joined l.members h ≡ true
  pub unloaded : load n ≡ None

-- What is loaded of an inode is as it is seen. One without links that has a reference and that no hart keeps is
-- loaded. Of one without a type nothing is.
pub record LoadsShow (load : ℕ → Option Loaded) (l : LogPart) (refs : ℕ → ℕ) (lock keeper : ℕ → Option ℕ)
    (nodes : ℕ → Option Node) : Type 0 where
  pub seen : (n : ℕ) (d : Loaded) → load n ≡ Some d → d.inode ≡ inode_in l n
  pub dead : (n : ℕ) → 0 < refs n → lock n ≡ None → keeper n ≡ None → is_dead (nodes n) ≡ true → IsSome (load n)
  pub typed : (n : ℕ) → nodes n ≡ None → load n ≡ None
  -- the index of its names is right
  pub indexed : (n : ℕ) (d : Loaded) → load n ≡ Some d → IsIndexOf l.sizes.version d.index (nodes n)

-- what is seen are bytes
abbrev pub AreBytes : LogPart → Type 0
AreBytes l = (b : ℕ) → b < length l.contents → IsOutsideLog l.sizes b → IsBytes (seen_of l b)

-- a block that a hart has taken is a data block that is no inode's, and its bit is set
abbrev pub TakenShow : Super → (owner : ℕ → ℕ) (left : ℕ → Bool) (taken : ℕ → Option ℕ) → Type 0
TakenShow sizes owner left taken = (b h : ℕ) → taken b ≡ Some h → (owner b ≡ 0) × (left b ≡ true) × IsOutsideLog sizes b × IsData sizes b

-- a hart commits just while a commit is under way
abbrev pub CommitShows : Option ℕ → Phase → Type 0
CommitShows None phase = phase ≡ Open
CommitShows (Some h) phase = phase ≢ Open

-- ---- open files

-- an offset is no further than a content may be long
abbrev pub OffsetsShow : (ℕ → Option Entry) → Type 0
OffsetsShow files = (k : ℕ) (e : Entry) → files k ≡ Some e → e.file.offset ≤ largest_size

-- ---- all of it

pub record Shows (r : World) (w : above.World) : Type 0 where
  pub whole : IsWholeLog (log_of r)
  pub runs : (log_of r).phase ≢ Halted
  pub size : w.all.ninodes ≡ (log_of r).sizes.ninodes
  pub tables : tables.Shows (tables_of r) w (loaded (tables_of r))
  pub members : MembersShow (log_of r).members w.desks
  pub blocks : AreOnBlocks (log_of r).contents (log_of r).seats (log_of r).sizes (log_of r).members
      (ghost_of r.owner r.left (on_blocks r.new w.disk) w.lock w.desks)
  pub news : (n h : ℕ) → r.new n ≡ Some h → IsNew n h (log_of r) w.lock w.keeper (loaded (tables_of r))
  pub bytes : AreBytes (log_of r)
  pub taken : TakenShow (log_of r).sizes r.owner r.left r.taken
  pub commit : CommitShows r.commits (log_of r).phase
  pub loads : LoadsShow (loaded (tables_of r)) (log_of r) w.refs w.lock w.keeper w.disk
  pub offsets : OffsetsShow w.files
