-- The places of the numbers of a content's blocks.
use Rattle.std.specs.Prelude.{ℕ, ◌-◌, ◌<◌, nat_lt, if◌then◌else◌, slice_index}
use Rattle.inode_data.specs.Vocabulary.{Dinode, numbers_per_block}
use Rattle.inode_data.specs.Widths.{direct}
use Rattle.inode_data.specs.declared.addresses.Address.{Address}
use Rattle.inode_data.specs.declared.addresses.Address.TheVariants.{Direct, InTable}

-- the place of the number of block k
abbrev pub address : ℕ → Address
address k = if nat_lt k direct then Direct k else InTable (k - direct)

-- the place is one of the inode, or of its indirect block
abbrev pub IsPlace : Address → Type 0
IsPlace (Direct i) = i < direct
IsPlace (InTable i) = i < numbers_per_block

-- the number of the indirect block; 0 if there is none
abbrev pub table_of : Dinode → ℕ
table_of d = slice_index d.addrs direct
