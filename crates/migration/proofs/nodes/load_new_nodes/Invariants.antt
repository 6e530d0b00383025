use Rattle.std.proofs.Common.{◌≡◌, ◌-◌, map}
use Rattle.migration.specs.Vocabulary.{ComesByCalls}
use Rattle.migration.specs.Nodes.{node_of}
use Rattle.migration.specs.Kept.{nodes_upto}
use Rattle.migration.proofs.nodes.load_new_nodes.Given as goal

abbrev pub invariant-loop-i : goal.invariant-loop-i
invariant-loop-i g l =
    (g.D.Device.contents l.old ≡ g.D.Device.contents l.fn.old) × (g.D.Device.failures l.old ≡ g.D.Device.failures l.fn.old)
    × (map node_of l.nodes.items ≡ nodes_upto l.layout.version l.version (g.D.Device.contents l.fn.old) (l.i - 1))
    × ComesByCalls g.D.Device.Called l.fn.old l.old
