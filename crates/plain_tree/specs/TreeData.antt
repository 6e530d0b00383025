-- A tree as plain data.
use Rattle.std.specs.Prelude.{ℕ, List, Option}
use Rattle.plain_tree.specs.declared.node.Node.{Node}
use Rattle.plain_tree.specs.declared.tree.OpenFileEntry.{OpenFileEntry}
use Rattle.plain_tree.specs.declared.tree.Hart.{Hart}

pub record TreeData : Type 0 where
  pub ninodes : ℕ  -- the number of a new node is below it
  pub nodes : List (Option Node)  -- by number; past its end there is no node
  pub files : List OpenFileEntry
  pub harts : List Hart
