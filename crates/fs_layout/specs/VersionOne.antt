-- The names, entries and superblock of version 1.
use Rattle.std.specs.Prelude.{ℕ, Bool, List, Option}
use Rattle.fs_layout.specs.Vocabulary.{dirent_len_of, dirents_per_block_of, magic_of, name_len_of, One}
use Rattle.fs_layout.specs.declared.entry.Dirent.{Dirent}
use Rattle.fs_layout.specs.declared.superblock.Super.{Super}
use Rattle.fs_layout.specs.Entry as entries
use Rattle.fs_layout.specs.Name as names
use Rattle.fs_layout.specs.Super as supers

abbrev pub magic : ℕ
magic = magic_of One

abbrev pub name_len : ℕ
name_len = name_len_of One

abbrev pub dirent_len : ℕ
dirent_len = dirent_len_of One

abbrev pub dirents_per_block : ℕ
dirents_per_block = dirents_per_block_of One

abbrev pub is_name : List ℕ → Bool
is_name name = names.is_name One name

abbrev pub IsName : List ℕ → Type 0
IsName name = names.IsName One name

abbrev pub spell_dirent : Dirent → List ℕ
spell_dirent d = entries.spell_dirent One d

abbrev pub used_of : ℕ → List ℕ → Option Dirent
used_of number field = entries.used_of One number field

abbrev pub dirent_of : List ℕ → Option Dirent
dirent_of bytes = entries.dirent_of One bytes

abbrev pub dirent_at : ℕ → List ℕ → Option Dirent
dirent_at place block = entries.dirent_at One place block

abbrev pub IsDirent : Dirent → Type 0
IsDirent d = entries.IsDirent One d

abbrev pub super_of : List ℕ → Option Super
super_of block = supers.super_of One block
