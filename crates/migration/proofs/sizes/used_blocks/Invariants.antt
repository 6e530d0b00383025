use Rattle.std.proofs.Common.{◌≡◌, ◌≤◌, ◌+◌, ◌*◌, drop, map}
use Rattle.migration.specs.Nodes.{node_of}
use Rattle.migration.specs.Image.{used_by}
use Rattle.migration.proofs.sizes.used_blocks.Given as goal

abbrev pub invariant-loop-node : goal.invariant-loop-node
invariant-loop-node l =
    (used_by l.blocks (map node_of (drop l.node-index l.nodes)) ≡ used_by l.first (map node_of l.nodes)) × (l.blocks ≤ l.first + 269 * l.node-index)
