-- What an operation on whole inodes changes that outlasts its call: inodes on the disk, and open files.
use Rattle.std.specs.Prelude.{◌≡◌, ◌≢◌, ◌⊎◌, ◌<◌, ℕ, List, [], ◌∷◌, ◌++◌, length, Option, Some, None}
use Rattle.run_laws.specs.Vocabulary.{node_or, Name, look, Deed, entry_moved, entry_of, with_bytes, Entry, Mark, Short, World, Wrote as WriteResult, WriteFile, Version}
use Rattle.run_laws.specs.WholeInodes.{IsStep, Operation}
pub use Rattle.call_programs.specs.Changes.{Sighting, Change, by_claim, by_free, by_count, where_there, by_entry, by_install, by_write, by_double, by_shut, changed_by, seen_by, Claimed, Counted, Raised, Lowered, Filled, Entered, Cleared, Emptied, Freed, Wrote, TookPlace, GaveBack, Moved}

-- what all of these change, one after the other
abbrev pub changes_after : Option Sighting → List Operation → List Change
changes_after seen [] = []
changes_after seen (e ∷ es) = changed_by seen e.op e.answer e.mark ++ changes_after (seen_by e.op e.answer) es

abbrev pub changes_of : List Operation → List Change
changes_of es = changes_after None es

-- ---- the reported changes are all

-- no other directory has a name for this inode
abbrev pub HasNoName : World → ℕ → Type 0
HasNoName w n = (d : ℕ) (e : Name) → d ≢ n → look w.all.nodes d e ≢ Some n

-- These stay: each inode on the disk that has a name; each open file, with its offset; and each hart's descriptors,
-- its place in hand and its current directory.
pub record LeavesAll (t u : World) : Type 0 where
  pub inodes : (n : ℕ) → (u.disk n ≡ t.disk n) ⊎ HasNoName t n
  pub files : (k : ℕ) → u.files k ≡ t.files k
  pub descriptors : (g fd : ℕ) → (u.desks g).fds fd ≡ (t.desks g).fds fd
  pub places : (g : ℕ) → (u.desks g).hand ≡ (t.desks g).hand
  pub directories : (g : ℕ) → (u.desks g).directory ≡ (t.desks g).directory

-- The inode that hart h has open by this descriptor has these bytes in its content, from the file's offset on. The
-- new offset is just after them.
pub record HasWritten (t : World) (h fd : ℕ) (bytes : List ℕ) (u : World) : Type 0 where
  pub entry : Entry
  pub opened : entry_of t h fd ≡ Some entry
  pub content : u.disk entry.file.number ≡ Some (with_bytes entry.file.offset bytes (node_or (t.disk entry.file.number)))
  pub stands : entry_of u h fd ≡ Some (entry_moved entry (length bytes))

-- So does each operation that reports no change.
abbrev pub ChangesAreTold : Type 0
ChangesAreTold =
    (version : Version) (t u : World) (h : ℕ) (e : Operation) → IsStep version t h e u → changes_of (e ∷ []) ≡ [] → LeavesAll t u

-- And an operation that reports to have written bytes has written just these.
abbrev pub WritesAreMade : Type 0
WritesAreMade =
    (version : Version) (t u : World) (h fd n offset : ℕ) (bytes b : List ℕ) (wrote : WriteResult) (mark : Option Mark) (told : Option Deed)
    → IsStep version t h (record { op = WriteFile fd n offset bytes; answer = wrote; mark = mark; told = told }) u
    → by_write fd bytes wrote ≡ Wrote fd b ∷ [] → HasWritten t h fd b u

-- And one that is answered that there was no block for all of its bytes has written fewer than it was asked to.
abbrev pub ShortWritesAreShort : Type 0
ShortWritesAreShort =
    (version : Version) (t u : World) (h fd n offset k : ℕ) (bytes : List ℕ) (mark : Option Mark) (told : Option Deed)
    → IsStep version t h (record { op = WriteFile fd n offset bytes; answer = Short k; mark = mark; told = told }) u → k < length bytes
