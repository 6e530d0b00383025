use Rattle.std.proofs.Common.{refl}
use Rattle.block_device.specs.Calls.{none}
use Rattle.block_device.specs.CallLaws.{calls_after}
use Rattle.std.proofs.Common.{◌∙◌}
use Rattle.migration.proofs.NewNodes.{nodes_all, nodes_more, nodes_none}
use Rattle.migration.proofs.nodes.load_new_nodes.Goals as goal

pub loop-i-init : goal.loop-i-init
loop-i-init g c =
    (refl, refl, nodes_none c.args.layout.now.version c.args.version (g.D.Device.contents c.args.old.now) c.new-nodes.result.items c.new-nodes.ensures.items, none)

pub loop-i-preserved : goal.loop-i-preserved
loop-i-preserved g c = (
  c.in_ok-node.ensures.device.contents ∙ c.loop-i.invariant.0,
  c.in_ok-node.ensures.device.faults ∙ c.loop-i.invariant.1,
  nodes_more c.args.layout.now.version c.args.version (g.D.Device.contents c.args.old.now) (g.D.Device.contents c.loop-i.old) c.loop-i.i c.in_ok-node.node
      c.loop-i.nodes.items c.push.new.nodes.items c.loop-i.auto.i c.loop-i.invariant.0 c.in_ok-node.ensures.node c.loop-i.invariant.2 c.in_ok-push.ensures,
  calls_after c.loop-i.invariant.3 c.in_ok-node.ensures.calls,
)

pub returns-clause-nodes : goal.returns-clause-nodes
returns-clause-nodes g c =
    nodes_all c.args.layout.now.version c.args.version (g.D.Device.contents c.args.old.now) c.args.layout.now c.loop-i.i c.loop-i.nodes.items c.requires.layout
    c.loop-i-test.false c.loop-i.auto.i-end c.loop-i.invariant.2
