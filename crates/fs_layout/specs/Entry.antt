-- A directory entry: the number of an inode, and its name padded with zeros; a free slot is all zeros.
use Rattle.std.specs.Prelude.{◌≢◌, ℕ, ◌-◌, ◌^◌, ◌<◌, ◌==◌, ◌&&◌, if◌then◌else◌, List, ◌++◌, length, take, drop, replicate, Option, Some, None}
use Rattle.fs_layout.specs.Vocabulary.{list_all, position_or_len, dirent_len_of, name_len_of, Version}
use Rattle.fs_layout.specs.declared.entry.Dirent.{Dirent}
use Rattle.fs_layout.specs.declared.entry.Dirent.TheVariants.{Free, Used}
use Rattle.fs_layout.specs.Bytes.{u16_bytes, u16_at, record_at}
use Rattle.fs_layout.specs.Name.{is_name, is_zero, IsName}
use Rattle.fs_layout.specs.Widths.{dirent_number_at, dirent_name_at}

-- the bytes of an entry
abbrev pub spell_dirent : Version → Dirent → List ℕ
spell_dirent v Free = replicate (dirent_len_of v) 0
spell_dirent v (Used number name) = u16_bytes number ++ (name ++ replicate (name_len_of v - length name) 0)

-- the name in a field: what comes before the first zero
abbrev pub name_of : List ℕ → List ℕ
name_of field = take (position_or_len is_zero field) field

-- a used entry with this number: the name, and then zeros alone
abbrev pub used_of : Version → ℕ → List ℕ → Option Dirent
used_of v number field =
    if is_name v (name_of field) && list_all is_zero (drop (position_or_len is_zero field) field) then Some (Used number (name_of field))
    else None

-- a free slot: zeros alone
abbrev pub free_of : List ℕ → Option Dirent
free_of field = if list_all is_zero field then Some Free else None

-- the entry that these bytes are, if they are one
abbrev pub dirent_of : Version → List ℕ → Option Dirent
dirent_of v bytes =
    if u16_at bytes dirent_number_at == 0
    then free_of (drop dirent_name_at bytes)
    else used_of v (u16_at bytes dirent_number_at) (drop dirent_name_at bytes)

-- the entry at a place of a block, if it is one
abbrev pub dirent_at : Version → ℕ → List ℕ → Option Dirent
dirent_at v place block = dirent_of v (record_at (dirent_len_of v) place block)

-- an entry that can be spelled
abbrev pub IsDirent : Version → Dirent → Type 0
IsDirent v Free = Unit {0}
IsDirent v (Used number name) = (number ≢ 0) × (number < 2 ^ 16) × IsName v name
