-- A new inode: programs over what all harts share. Nothing is marked in them.
use Rattle.std.specs.Prelude.{ℕ, zero, suc, ◌+◌, ◌-◌, ◌*◌, ◌/◌, ◌==◌, ◌&&◌, nat_lt, ℤ, pos, negsuc, Bool, false, if◌then◌else◌, List, [], ◌∷◌, ◌++◌, replicate, Some, None}
use Rattle.inode_table.specs.Vocabulary.{Dinode, Super, dinode_at, addresses, inodes_per_block, Prog, Ret, Do, bind, unmarked, Answer, Put, Claim, ClaimResult, Claims, NoPlace as HasNoPlace, HasNoInode, fetch}
use Rattle.fs_machine.specs.Steps.{Op}
use Rattle.inode_table.specs.Programs.{place_of, with_dinode}
use Rattle.inode_table.specs.declared.new_inode.Made.{Made}
use Rattle.inode_table.specs.declared.new_inode.Made.TheVariants.{Inode, NoPlace, NoInode}

abbrev pub is_zero : ℤ → Bool
is_zero (pos n) = n == 0
is_zero (negsuc n) = false

-- inode n is one that can be used, and its block says that it is free
abbrev pub is_free_in : (ninodes : ℕ) → List ℕ → ℕ → Bool
is_free_in ninodes block n = (nat_lt 0 n && nat_lt n ninodes) && is_zero (dinode_at (place_of n) block).kind

-- of the k inodes from this one on, those that are free, in rising order
unfoldable pub free_among : (ninodes first : ℕ) → List ℕ → ℕ → List ℕ
free_among ninodes first block zero = []
free_among ninodes first block (suc k) =
    free_among ninodes first block k ++ (if is_free_in ninodes block (first + k) then (first + k) ∷ [] else [])

-- the free inodes of an inode block that comes after q others
abbrev pub free_in : (ninodes q : ℕ) → List ℕ → List ℕ
free_in ninodes q block = free_among ninodes (inodes_per_block * q) block inodes_per_block

-- how many inode blocks there are
abbrev pub inode_blocks : ℕ → ℕ
inode_blocks ninodes = (ninodes + (inodes_per_block - 1)) / inodes_per_block

-- a new inode's record: its type alone, and zeros
abbrev pub new_record : ℤ → Dinode
new_record kind = record { kind = kind; major = pos 0; minor = pos 0; nlink = pos 0; size = 0; addrs = replicate addresses 0 }

-- The block is recorded with the inode that was claimed. If no inode in memory was free, the block is given back as
-- it was. If the block has no inode to claim, it was given back already, and the search goes on.
abbrev pub make_in : {M : Type 0} → Prog Op Answer M Made → ℤ → ℕ → List ℕ → ClaimResult → Prog Op Answer M Made
make_in more kind b block (Claims n) = Do (Put b (Some (with_dinode n (new_record kind) block))) unmarked (λ _. Ret (Inode n))
make_in more kind b block HasNoPlace = Do (Put b None) unmarked (λ _. Ret NoPlace)
make_in more kind b block HasNoInode = more

-- a reference is taken to the first free inode of the block that has no reference
abbrev pub look_in : {M : Type 0} → Prog Op Answer M Made → ℤ → (ninodes q b : ℕ) → List ℕ → Prog Op Answer M Made
look_in more kind ninodes q b block = Do (Claim b (free_in ninodes q block)) unmarked (make_in more kind b block)

-- in this count of blocks, after q others
unfoldable pub new_from : {M : Type 0} → ℕ → ℤ → Super → ℕ → Prog Op Answer M Made
new_from zero kind sizes q = Ret NoInode
new_from (suc n) kind sizes q =
    bind (fetch (sizes.inodestart + q)) (look_in (new_from n kind sizes (q + 1)) kind sizes.ninodes q (sizes.inodestart + q))

-- The first free inode that has no reference is taken, and recorded with its type alone; each block is looked at
-- once.
abbrev pub new_inode : {M : Type 0} → ℤ → Super → Prog Op Answer M Made
new_inode kind sizes = new_from (inode_blocks sizes.ninodes) kind sizes 0
