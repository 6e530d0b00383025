-- Inodes whose locks are in hand.
use Rattle.std.specs.Prelude.{◌<◌, ◌^◌, ℕ, pos, None, IsSome}
use Rattle.inode_table.specs.Vocabulary.{MatchOption, option_map, Dinode, GuardState, Inode, Loaded, Hand, InodePlace, inode_at, inode_in, with_inode}
use Rattle.inode_table.specs.Programs.{loaded_of, inode_block}

-- the number of the inode at a seat, what was loaded of it, and its record
abbrev pub number_in : InodePlace → Hand → ℕ
number_in k h = (inode_in k h).number

abbrev pub loaded_in : InodePlace → Hand → Loaded
loaded_in k h = loaded_of (inode_in k h)

abbrev pub record_in : InodePlace → Hand → Dinode
record_in k h = (loaded_in k h).inode

-- it is loaded
abbrev pub IsLoadedAt : InodePlace → Hand → Type 0
IsLoadedAt k h = MatchOption (inode_at k h) ⊥ (λ g. IsSome g.value.content)

-- its block's number is a u32
abbrev pub HasBlock : ℕ → InodePlace → Hand → Type 0
HasBlock inodestart k h = inode_block inodestart (number_in k h) < 2 ^ 32

-- a record with this count of links
abbrev pub counted : ℕ → Dinode → Dinode
counted n d = record d { nlink = pos n }

-- nothing is loaded of it
abbrev pub without_content : GuardState Inode → GuardState Inode
without_content g = record g { value = record g.value { content = None } }

abbrev pub unloaded : InodePlace → Hand → Hand
unloaded k h = with_inode k (option_map without_content (inode_at k h)) h
