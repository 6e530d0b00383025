-- The nodes of an image that is made.
use Rattle.std.specs.Prelude.{ℤ, ℕ, pos, List, [], Option, Some, None}
use Rattle.migration.specs.Vocabulary.{Version, Dirent, Free, spell_dirent, flat_map}
use Rattle.migration.specs.declared.node.NewNode.{NewNode}

-- what a node's inode says, and its content, which has as many bytes as the inode says
pub record Node : Type 0 where
  pub kind : ℤ
  pub major : ℤ
  pub minor : ℤ
  pub nlink : ℤ
  pub content : List ℕ

-- what a free inode says
abbrev pub free_node : Node
free_node = record { kind = pos 0; major = pos 0; minor = pos 0; nlink = pos 0; content = [] }

-- a node as the code has it
abbrev pub node_of : NewNode → Node
node_of node = record { kind = node.kind; major = node.major; minor = node.minor; nlink = node.nlink; content = node.content.items }

-- a slot as version v spells it: a free one is zeros
abbrev pub spell_slot : Version → Option Dirent → List ℕ
spell_slot v None = spell_dirent v Free
spell_slot v (Some entry) = spell_dirent v entry

-- the content of a directory with these slots, each in its place
abbrev pub spell_slots : Version → List (Option Dirent) → List ℕ
spell_slots v slots = flat_map (spell_slot v) slots
