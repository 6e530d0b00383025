-- The widths and limits that do not depend on the version.
use Rattle.std.specs.Prelude.{ℕ}
use Rattle.image_versions.specs.Shared as shared

-- bytes of the largest file
abbrev pub largest_size : ℕ
largest_size = shared.largest_size

-- bytes of a write's piece
abbrev pub piece_len : ℕ
piece_len = 3072

-- the greatest count of a node
abbrev pub count_limit : ℕ
count_limit = 32767

abbrev pub hart_count : ℕ
hart_count = 8

-- descriptors of a hart
abbrev pub descriptor_count : ℕ
descriptor_count = 16

-- devices whose major is below this open
abbrev pub major_limit : ℕ
major_limit = 10

-- the number of the root directory, and of the one device
abbrev pub root : ℕ
root = 1

abbrev pub root_device : ℕ
root_device = 1
