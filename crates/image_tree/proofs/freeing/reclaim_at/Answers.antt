use Rattle.image_tree.proofs.Lemmas.{either_after}
use Rattle.image_tree.proofs.freeing.reclaim_at.Goals as goal

pub returns-clause-well : goal.returns-clause-well
returns-clause-well g c =
    (either_after c.args.layout.now.version (g.D.Device.contents c.args.device.now) (g.D.Device.contents c.is_nameless.new.device) (g.D.Device.contents c.free.new.device) c.args.i c.in_ok-nameless.nameless
    c.in_ok-nameless.ensures.device.contents c.requires.well c.in_ok-nameless.ensures.is c.if-not-nameless.false c.free.ensures.either).well

pub returns-clause-tree : goal.returns-clause-tree
returns-clause-tree g c =
    (either_after c.args.layout.now.version (g.D.Device.contents c.args.device.now) (g.D.Device.contents c.is_nameless.new.device) (g.D.Device.contents c.free.new.device) c.args.i c.in_ok-nameless.nameless
    c.in_ok-nameless.ensures.device.contents c.requires.well c.in_ok-nameless.ensures.is c.if-not-nameless.false c.free.ensures.either).tree
