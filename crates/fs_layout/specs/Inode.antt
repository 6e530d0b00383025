-- An inode on the disk.
use Rattle.std.specs.Prelude.{◌≡◌, ℕ, ◌^◌, ◌<◌, List, ◌++◌, length, FitsSigned}
use Rattle.fs_layout.specs.Vocabulary.{w16, flat_map, AllByRecursion}
use Rattle.fs_layout.specs.declared.inode.Dinode.{Dinode}
use Rattle.fs_layout.specs.Bytes.{i16_bytes, u32_bytes, i16_at, u32_at, u32s_at, record_at}
use Rattle.fs_layout.specs.Widths.{inode_len, addresses, inode_kind_at, inode_major_at, inode_minor_at, inode_nlink_at, inode_size_at, inode_addresses_at}

-- the bytes of an inode
abbrev pub spell_dinode : Dinode → List ℕ
spell_dinode d =
    i16_bytes d.kind ++ i16_bytes d.major ++ i16_bytes d.minor ++ i16_bytes d.nlink ++ u32_bytes d.size ++ flat_map u32_bytes d.addrs

-- the inode that these bytes are
abbrev pub dinode_of : List ℕ → Dinode
dinode_of bytes = record {
  kind = i16_at bytes inode_kind_at;
  major = i16_at bytes inode_major_at;
  minor = i16_at bytes inode_minor_at;
  nlink = i16_at bytes inode_nlink_at;
  size = u32_at bytes inode_size_at;
  addrs = u32s_at addresses bytes inode_addresses_at;
}

-- the inode at a place of a block
abbrev pub dinode_at : ℕ → List ℕ → Dinode
dinode_at place block = dinode_of (record_at inode_len place block)

-- the values of the code's type
pub record IsDinode (d : Dinode) : Type 0 where
  pub kind : FitsSigned w16 d.kind
  pub major : FitsSigned w16 d.major
  pub minor : FitsSigned w16 d.minor
  pub nlink : FitsSigned w16 d.nlink
  pub size : d.size < 2 ^ 32
  pub thirteen : length d.addrs ≡ addresses
  pub addrs : AllByRecursion (λ b. b < 2 ^ 32) d.addrs
