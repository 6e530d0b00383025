-- What the nodes of an image must be, so that their parts can be spelled.
use Rattle.std.specs.Prelude.{◌≢◌, ◌<◌, ◌≤◌, ◌^◌, List, length, All, Option, Some, None}
use Rattle.migration.specs.Vocabulary.{Version, Dirent, Free, Used, IsName, largest_size}
use Rattle.migration.specs.Nodes.{Node}

-- as many as there are numbers, and none too large
pub record HaveContents (nodes : List Node) : Type 0 where
  pub few : length nodes < 2 ^ 16
  pub each : All (λ (node : Node). length node.content ≤ largest_size) nodes

-- a slot that version v can spell
abbrev pub CanSpell : Version → Option Dirent → Type 0
CanSpell v None = Unit {0}
CanSpell v (Some Free) = Unit {0}
CanSpell v (Some (Used number name)) = (number ≢ 0) × IsName v name
