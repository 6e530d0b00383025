-- The superblock: the magic number, then the places of the disk's parts.
use Rattle.std.specs.Prelude.{ℕ, ◌==◌, ◌^◌, ◌<◌, if◌then◌else◌, List, [], ◌∷◌, Option, Some, None}
use Rattle.fs_layout.specs.Vocabulary.{flat_map, unwrap_or, AllByRecursion, magic_of, version_of_magic, One, Version}
use Rattle.fs_layout.specs.declared.superblock.Super.{Super}
use Rattle.fs_layout.specs.Bytes.{u32_bytes, u32_at}
use Rattle.fs_layout.specs.Widths.{super_magic_at, super_size_at, super_nblocks_at, super_ninodes_at, super_nlog_at, super_logstart_at, super_inodestart_at, super_bmapstart_at}

-- the fields in their order on the disk
abbrev pub super_numbers : Super → List ℕ
super_numbers s = s.size ∷ s.nblocks ∷ s.ninodes ∷ s.nlog ∷ s.logstart ∷ s.inodestart ∷ s.bmapstart ∷ []

-- the bytes of a superblock
abbrev pub spell_super : Super → List ℕ
spell_super s = flat_map u32_bytes (magic_of s.version ∷ super_numbers s)

-- what a block says as a superblock: its version is that of its magic number, and the first if it is no version's
abbrev pub super_fields : List ℕ → Super
super_fields block = record {
  version = unwrap_or (version_of_magic (u32_at block super_magic_at)) One;
  size = u32_at block super_size_at;
  nblocks = u32_at block super_nblocks_at;
  ninodes = u32_at block super_ninodes_at;
  nlog = u32_at block super_nlog_at;
  logstart = u32_at block super_logstart_at;
  inodestart = u32_at block super_inodestart_at;
  bmapstart = u32_at block super_bmapstart_at;
}

-- the superblock of this version that a block is, if its magic number is right
abbrev pub super_of : Version → List ℕ → Option Super
super_of v block = if u32_at block super_magic_at == magic_of v then Some (super_fields block) else None

-- the values of the code's type
abbrev pub IsSuper : Super → Type 0
IsSuper s = AllByRecursion (λ n. n < 2 ^ 32) (super_numbers s)
