use Rattle.image_tree.proofs.Lemmas.{◌∙◌, refl, none, calls_after, nodes_one, nodes_more}
use Rattle.image_tree.proofs.trees.load_nodes.Goals as goal

pub loop-i-init : goal.loop-i-init
loop-i-init g c =
    (refl, refl, nodes_one c.args.layout.now.version (g.D.Device.contents c.args.device.now) c.new-nodes.result.items c.push.new.items.items c.new-nodes.ensures.items c.in_ok-push.ensures, none)

pub loop-i-preserved : goal.loop-i-preserved
loop-i-preserved g c = (
  c.in_ok-node.ensures.device.contents ∙ c.loop-i.invariant.0,
  c.in_ok-node.ensures.device.faults ∙ c.loop-i.invariant.1,
  nodes_more c.args.layout.now.version (g.D.Device.contents c.args.device.now) (g.D.Device.contents c.loop-i.device) c.loop-i.i c.in_ok-node.node c.loop-i.nodes.items c.push-in-loop-i.new.items.items
      c.loop-i.invariant.0 c.in_ok-node.ensures.node c.loop-i.invariant.2 c.in_ok-push-2.ensures,
  calls_after c.loop-i.invariant.3 c.in_ok-node.ensures.calls,
)
