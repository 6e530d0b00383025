-- An inode in memory, as the holder of its lock has it.
use Rattle.std.specs.Prelude.{ℕ, List, [], Option, Some, None}
use Rattle.fs_machine.specs.Vocabulary.{option_map, option_map_or, Dinode}
use Rattle.fs_machine.specs.declared.name_index.IndexedSlot.{IndexedSlot}

-- the used slots of a directory's first so many blocks, in their order
pub record IndexState : Type 0 where
  pub blocks : ℕ
  pub slots : List IndexedSlot

abbrev pub no_index : IndexState
no_index = record { blocks = 0; slots = [] }

-- an inode's record on the disk, and an index of its names
pub record Loaded : Type 0 where
  pub inode : Dinode
  pub index : IndexState

-- nothing is indexed yet
abbrev pub unindexed : Dinode → Loaded
unindexed d = record { inode = d; index = no_index }

-- its number, and what was loaded of it
pub record Inode : Type 0 where
  pub number : ℕ
  pub content : Option Loaded

-- what code has: a record where it is loaded, and an index that counts only then
abbrev pub content_of : Option Dinode → IndexState → Option Loaded
content_of d x = option_map (λ (e : Dinode). record { inode = e; index = x }) d

-- its record on the disk
abbrev pub dinode_of : Inode → Option Dinode
dinode_of v = option_map (λ (l : Loaded). l.inode) v.content

-- this is its record from this step on, and its names are as they were
abbrev pub with_inode_of : Dinode → Option Loaded → Loaded
with_inode_of d None = unindexed d
with_inode_of d (Some l) = record l { inode = d }

abbrev pub stands_so : Dinode → Inode → Inode
stands_so d v = record v { content = Some (with_inode_of d v.content) }

-- the index of its names
abbrev pub index_of : Inode → IndexState
index_of v = option_map_or (λ (l : Loaded). l.index) v.content no_index

abbrev pub with_index_of : IndexState → Inode → Inode
with_index_of x v = record v { content = option_map (λ (l : Loaded). record l { index = x }) v.content }
