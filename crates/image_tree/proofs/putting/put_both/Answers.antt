use Rattle.image_tree.proofs.Lemmas.{inr, through, named}
use Rattle.image_tree.proofs.putting.put_both.Goals as goal

pub install-requires : goal.install-requires
install-requires g c =
    c.requires.well (g.D.Device.contents c.write_head.new.device)
    (named c.args.layout.now.version (g.D.Device.contents c.args.device.now) (g.D.Device.contents c.log_both.new.device) (g.D.Device.contents c.write_head.new.device) c.args.layout.now.sizes c.args.home c.args.bitmap.now c.args.inodes.now
    c.requires.layout.good c.requires.layout.sizes c.requires.low c.in_ok-log_both.ensures.view c.in_ok-log_both.ensures.first c.in_ok-log_both.ensures.second c.in_ok-write_head.ensures.put)

pub returns-clause-either : goal.returns-clause-either
returns-clause-either g c =
    inr (through c.args.layout.now.version (g.D.Device.contents c.args.device.now) (g.D.Device.contents c.log_both.new.device) (g.D.Device.contents c.write_head.new.device) c.args.layout.now.sizes c.args.home c.args.bitmap.now c.args.inodes.now
    c.requires.layout.good c.requires.layout.sizes c.requires.low c.in_ok-log_both.ensures.view c.in_ok-log_both.ensures.first c.in_ok-log_both.ensures.second c.in_ok-write_head.ensures.put
    (g.D.Device.contents c.install.new.device) c.install.ensures.view)
