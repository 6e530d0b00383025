-- The versions of images, a row each.
use Rattle.std.specs.Prelude.{ℕ, ◌+◌, ◌*◌, ◌/◌, ◌==◌, if◌then◌else◌, Option, Some, None}
use Rattle.image_versions.specs.declared.version.Version.{Version}
use Rattle.image_versions.specs.declared.version.Version.TheVariants.{One, Two}
use Rattle.image_versions.specs.Shared.{block_len, entry_number_len, most_content_blocks}

-- counted from 1
abbrev pub number_of : Version → ℕ
number_of One = 1
number_of Two = 2

-- the number that a superblock begins with
abbrev pub magic_of : Version → ℕ
magic_of One = 0x10203040
magic_of Two = 0x10203042

-- the bytes of a name at most, and of the field that holds one
abbrev pub name_len_of : Version → ℕ
name_len_of One = 14
name_len_of Two = 30

-- the bytes of the longest name of any version
abbrev pub longest_name : ℕ
longest_name = name_len_of Two

-- the bytes of the longest entry of any version
abbrev pub longest_dirent : ℕ
longest_dirent = entry_number_len + longest_name

-- the bytes of an entry: the inode's number, and the name's field
abbrev pub dirent_len_of : Version → ℕ
dirent_len_of v = entry_number_len + name_len_of v

-- how many entries a block has
abbrev pub dirents_per_block_of : Version → ℕ
dirents_per_block_of v = block_len / dirent_len_of v

-- the most entries of a directory
abbrev pub most_slots_of : Version → ℕ
most_slots_of v = most_content_blocks * dirents_per_block_of v

-- the size of a new directory: its two entries
abbrev pub new_directory_size_of : Version → ℕ
new_directory_size_of v = 2 * dirent_len_of v

-- the version of that number, if there is one
abbrev pub version_of_number : ℕ → Option Version
version_of_number n = if n == number_of One then Some One else (if n == number_of Two then Some Two else None)

-- the version whose superblock begins so
abbrev pub version_of_magic : ℕ → Option Version
version_of_magic m = if m == magic_of One then Some One else (if m == magic_of Two then Some Two else None)
