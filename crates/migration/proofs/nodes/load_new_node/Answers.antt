use Rattle.std.proofs.Common.{◌∙◌, sym, SFits, w16, rules}
use Rattle.fs_layout.proofs.Vocabulary.{to_z-of_z}
use Rattle.migration.specs.Nodes.{node_of}
use Rattle.migration.proofs.NewNodes.{dead_goes, free_stays, live_stays}
use Rattle.migration.proofs.nodes.load_new_node.Goals as goal

pub returns-then-is_free-clause-node : goal.returns-then-is_free-clause-node
returns-then-is_free-clause-node g c =
    free_stays c.args.layout.now.version c.args.version (g.D.Device.contents c.args.old.now) c.args.layout.now c.args.i c.in_ok-inode.inode (node_of c.free_node.result)
    c.requires.layout c.requires.low c.requires.bound c.in_ok-inode.ensures.inode (sym c.is_free.ensures ∙ c.if-is_free.true) c.free_node.ensures

pub returns-then-not-is_live-clause-node : goal.returns-then-not-is_live-clause-node
returns-then-not-is_live-clause-node g c =
    dead_goes c.args.layout.now.version c.args.version (g.D.Device.contents c.args.old.now) c.args.i c.in_ok-inode.inode (node_of c.free_node-then-not-is_live.result)
    c.in_ok-inode.ensures.inode (sym c.is_live.ensures ∙ c.if-not-is_live.true) c.free_node-then-not-is_live.ensures

pub returns-clause-node : goal.returns-clause-node
returns-clause-node g c =
    let kind : SFits w16 c.in_ok-inode.inode.kind = search rules in
    let major : SFits w16 c.in_ok-inode.inode.major = search rules in
    let minor : SFits w16 c.in_ok-inode.inode.minor = search rules in
    let nlink : SFits w16 c.in_ok-inode.inode.nlink = search rules in
    simp to_z-of_z
    (live_stays c.args.layout.now.version c.args.version (g.D.Device.contents c.args.old.now) (g.D.Device.contents c.load_inode.new.device) c.args.layout.now c.args.i
    c.in_ok-inode.inode c.in_ok-content.content.items c.requires.layout c.requires.low c.requires.bound c.in_ok-inode.ensures.inode
    (sym c.is_free.ensures ∙ c.if-is_free.false) (sym c.is_live.ensures ∙ c.if-not-is_live.false) c.in_ok-content.ensures.content c.in_ok-inode.ensures.device.contents)
