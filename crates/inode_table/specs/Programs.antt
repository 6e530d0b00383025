-- Inodes loaded from their blocks and stored into them: programs over what all harts share. Nothing is marked in them.
use Rattle.std.specs.Prelude.{ℕ, ◌+◌, ◌*◌, ◌/◌, ◌%◌, pos, List, [], Option, Some, None}
use Rattle.inode_table.specs.Vocabulary.{unwrap_or, Dinode, overwrite, dinode_at, spell_dinode, inode_len, inodes_per_block, Prog, Ret, Do, bind, unmarked, Inode, Loaded, unindexed, Answer, Put, fetch}
use Rattle.fs_machine.specs.Steps.{Op}

-- an inode that isn't loaded has no record
abbrev pub no_record : Dinode
no_record = record { kind = pos 0; major = pos 0; minor = pos 0; nlink = pos 0; size = 0; addrs = [] }

-- what was loaded of an inode in memory, if it is loaded
abbrev pub loaded_of : Inode → Loaded
loaded_of inode = unwrap_or inode.content (unindexed no_record)

-- its record, as it is on the disk
abbrev pub record_of : Inode → Dinode
record_of inode = (loaded_of inode).inode

-- the block of an inode, if the inode blocks begin at this one
abbrev pub inode_block : ℕ → ℕ → ℕ
inode_block inodestart n = inodestart + n / inodes_per_block

-- its place in its block, counted in inodes
abbrev pub place_of : ℕ → ℕ
place_of n = n % inodes_per_block

-- an inode block with this record of inode n, and the others as they were
unfoldable pub with_dinode : ℕ → Dinode → List ℕ → List ℕ
with_dinode n d block = overwrite block (inode_len * place_of n) (spell_dinode d)

-- the buffer is given back as it was, and the inode is as the block has it, with none of its names indexed
abbrev pub give_back : {M : Type 0} → (b n : ℕ) → List ℕ → Prog Op Answer M Loaded
give_back b n block = Do (Put b None) unmarked (λ _. Ret (unindexed (dinode_at (place_of n) block)))

-- inode n, read from its block
abbrev pub load : {M : Type 0} → (inodestart n : ℕ) → Prog Op Answer M Loaded
load inodestart n = bind (fetch (inode_block inodestart n)) (give_back (inode_block inodestart n) n)

-- the same if it isn't loaded yet
abbrev pub load_unless : {M : Type 0} → (inodestart n : ℕ) → Option Loaded → Prog Op Answer M Loaded
load_unless inodestart n (Some l) = Ret l
load_unless inodestart n None = load inodestart n

-- the buffer is given back with the inode in it
abbrev pub put_inode : {M : Type 0} → (b n : ℕ) → Dinode → List ℕ → Prog Op Answer M (Unit {0})
put_inode b n d block = Do (Put b (Some (with_dinode n d block))) unmarked (λ _. Ret tt)

-- inode n goes into its block
abbrev pub store : {M : Type 0} → (inodestart n : ℕ) → Dinode → Prog Op Answer M (Unit {0})
store inodestart n d = bind (fetch (inode_block inodestart n)) (put_inode (inode_block inodestart n) n d)
