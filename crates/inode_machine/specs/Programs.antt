-- Each call's program, and how long it is at most.
use Rattle.std.specs.Prelude.{ℕ, ◌+◌, ◌*◌, List, length}
use Rattle.image_versions.specs.declared.version.Version.{Version}
use Rattle.inode_machine.specs.Vocabulary.{Reply, Call, Open, Read, Write, Link, Unlink, Mkdir, Chdir, Dup, Fstat, Close, Inherit, elements, piece_count}
use Rattle.inode_machine.specs.Basics.{P}
use Rattle.inode_machine.specs.Descriptors.{dup_program, close_program, stat_program, read_program, write_program}
use Rattle.inode_machine.specs.Opening.{open_program}
use Rattle.inode_machine.specs.Naming.{link_program, unlink_program, mkdir_program}
use Rattle.inode_machine.specs.Moving.{chdir_program, inherit_program}

abbrev pub program : Version → Call → P Reply
program version (Open path flags) = open_program version path flags
program version (Read fd buffer) = read_program fd buffer
program version (Write fd bytes) = write_program fd bytes
program version (Link old new) = link_program version old new
program version (Unlink path) = unlink_program version path
program version (Mkdir path) = mkdir_program version path
program version (Chdir path) = chdir_program version path
program version (Dup fd) = dup_program fd
program version (Fstat fd) = stat_program fd
program version (Close fd) = close_program fd
program version (Inherit child) = inherit_program child

-- The most steps below. An element is looked up, and what its directory leaves may be freed after the call. Else a
-- call makes a few of the longest operations; a write's piece has its commit.

abbrev pub element_cost : ℕ
element_cost = 2600

abbrev pub path_cost : Version → List ℕ → ℕ
path_cost version path = element_cost * (length (elements version path) + 1)

abbrev pub rest_cost : ℕ
rest_cost = 24000

abbrev pub piece_cost : ℕ
piece_cost = 200

abbrev pub limit : Version → Call → ℕ
limit version (Open path flags) = path_cost version path + rest_cost
limit version (Read fd buffer) = rest_cost
limit version (Write fd bytes) = piece_cost * (piece_count bytes + 1)
limit version (Link old new) = path_cost version old + path_cost version new + rest_cost
limit version (Unlink path) = path_cost version path + rest_cost
limit version (Mkdir path) = path_cost version path + rest_cost
limit version (Chdir path) = path_cost version path + rest_cost
limit version (Dup fd) = rest_cost
limit version (Fstat fd) = rest_cost
limit version (Close fd) = rest_cost
limit version (Inherit child) = rest_cost
