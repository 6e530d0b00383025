-- The index that a hart or the tables have of a directory's names, beside its node.
use Rattle.std.specs.Prelude.{ℕ, Option, slice_index_or, None}
use Rattle.inodes_on_blocks.specs.Vocabulary.{Dirent, Version, IndexState, IsIndex, Node, all_slots}
use Rattle.inodes_on_blocks.specs.Holds.{entry_of}

-- a slot of a node as it is read; after the last one they are free
abbrev pub slot_read : Option Node → ℕ → Option Dirent
slot_read v s = entry_of (slice_index_or (all_slots v) s None)

-- it has the used slots of the node's first blocks
abbrev pub IsIndexOf : Version → IndexState → Option Node → Type 0
IsIndexOf version x v = IsIndex version x (slot_read v)
