use Rattle.image_tree.proofs.Lemmas.{◌∙◌, refl, ap, ℕ, List, arith, not, none, calls_after, inode_of, in_order, flags-one, flags-more, node_table_is}
use Rattle.image_tree.proofs.entries.node_table.Goals as goal

pub loop-i-init : goal.loop-i-init
loop-i-init g c =
    let one = flags-one (g.D.Device.contents c.args.device.now) c.new-nodes.result.items c.push.new.items.items c.new-nodes.ensures.items c.in_ok-push.ensures in
    (refl, refl, one.0, one.1, none)

pub loop-i-preserved : goal.loop-i-preserved
loop-i-preserved g c =
    let more = flags-more (g.D.Device.contents c.args.device.now) c.args.layout.now c.loop-i.i c.in_ok-inode.inode _ c.loop-i.nodes.items
    c.push-in-loop-i.new.items.items c.requires.layout (omega arith) (omega arith)
    (c.in_ok-inode.ensures.inode ∙ ap (λ (d : List (List ℕ)). inode_of d c.loop-i.i) c.loop-i.invariant.0) (ap not c.is_free.ensures) c.loop-i.invariant.2
    c.loop-i.invariant.3 c.in_ok-push-2.ensures in
    (c.in_ok-inode.ensures.device.contents ∙ c.loop-i.invariant.0, c.in_ok-inode.ensures.device.faults ∙ c.loop-i.invariant.1, more.0, more.1, calls_after c.loop-i.invariant.4 c.in_ok-inode.ensures.calls)

pub returns-clause-table : goal.returns-clause-table
returns-clause-table g c =
    let order = in_order (g.D.Device.contents c.args.device.now) c.args.layout.now c.requires.layout in
    let two = order.two in
    node_table_is (g.D.Device.contents c.args.device.now) c.args.layout.now c.loop-i.i c.loop-i.nodes.items c.requires.layout (omega arith) c.loop-i.invariant.2 c.loop-i.invariant.3
