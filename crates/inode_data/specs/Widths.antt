-- How many blocks a content has.
use Rattle.std.specs.Prelude.{ℕ}
use Rattle.image_versions.specs.Shared as shared

-- how many block numbers are in the inode itself; that of the indirect block comes after them
abbrev pub direct : ℕ
direct = shared.direct

-- how many blocks a content has at most
abbrev pub most_blocks : ℕ
most_blocks = shared.most_content_blocks

-- and how many bytes
abbrev pub most_bytes : ℕ
most_bytes = shared.largest_size
