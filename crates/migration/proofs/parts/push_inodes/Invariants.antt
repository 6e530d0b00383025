use Rattle.std.proofs.Common.{◌≡◌, ◌≤◌, ◌+◌, ◌*◌, ◌++◌, drop, map}
use Rattle.migration.specs.Vocabulary.{flat_map, spell_dinode}
use Rattle.migration.specs.Nodes.{node_of}
use Rattle.migration.specs.Image.{inodes_from}
use Rattle.migration.proofs.parts.push_inodes.Given as goal

abbrev pub invariant-loop-node : goal.invariant-loop-node
invariant-loop-node l =
    (l.at ≤ l.first + 269 * l.node-index)
    × (l.image.items ++ flat_map spell_dinode (inodes_from l.at (map node_of (drop l.node-index l.nodes)))
    ≡ l.fn.image.items ++ flat_map spell_dinode (inodes_from l.first (map node_of l.nodes)))
