use Rattle.image_tree.proofs.Lemmas.{◌∙◌, sym, no_node_free, no_node_dead, node_told}
use Rattle.image_tree.proofs.trees.load_node.Goals as goal

pub returns-then-is_free-clause-node : goal.returns-then-is_free-clause-node
returns-then-is_free-clause-node g c =
    no_node_free (g.D.Device.contents c.args.device.now) c.args.layout.now c.args.i c.in_ok-inode.inode c.requires.layout c.requires.low c.requires.bound c.in_ok-inode.ensures.inode
    (sym c.is_free.ensures ∙ c.if-is_free.true)

pub returns-then-not-is_live-clause-node : goal.returns-then-not-is_live-clause-node
returns-then-not-is_live-clause-node g c =
    no_node_dead c.args.layout.now.version (g.D.Device.contents c.args.device.now) c.args.i c.in_ok-inode.inode c.in_ok-inode.ensures.inode (sym c.is_live.ensures ∙ c.if-not-is_live.true)

pub returns-clause-node : goal.returns-clause-node
returns-clause-node g c =
    node_told (g.D.Device.contents c.args.device.now) (g.D.Device.contents c.load_inode.new.device) c.args.layout.now c.args.i c.count_in.result c.in_ok-inode.inode c.in_ok-kind.kind
    c.requires.layout c.requires.low c.requires.bound c.in_ok-inode.ensures.inode (sym c.is_free.ensures ∙ c.if-is_free.false) (sym c.is_live.ensures ∙ c.if-not-is_live.false)
    c.count_in.ensures c.in_ok-kind.ensures.kind c.in_ok-inode.ensures.device.contents
