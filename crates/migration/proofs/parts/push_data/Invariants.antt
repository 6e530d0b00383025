use Rattle.std.proofs.Common.{◌≡◌, ◌≤◌, ◌+◌, ◌*◌, ◌++◌, drop, map}
use Rattle.migration.specs.Nodes.{node_of}
use Rattle.migration.specs.Image.{data_from}
use Rattle.migration.proofs.parts.push_data.Given as goal

abbrev pub invariant-loop-node : goal.invariant-loop-node
invariant-loop-node l =
    (l.at ≤ l.first + 269 * l.node-index)
    × (l.image.items ++ data_from l.at (map node_of (drop l.node-index l.nodes)) ≡ l.fn.image.items ++ data_from l.first (map node_of l.nodes))
