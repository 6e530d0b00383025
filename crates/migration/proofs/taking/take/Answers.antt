use Rattle.std.proofs.Common.{◌∙◌}
use Rattle.migration.proofs.Contents.{contents_ready}
use Rattle.migration.proofs.taking.take.Goals as goal

pub used_blocks-requires-clause-contents : goal.used_blocks-requires-clause-contents
used_blocks-requires-clause-contents g c =
    contents_ready c.args.from c.in_ok-layout.layout.version c.args.version (g.D.Device.contents c.args.old.now) (g.D.Device.contents c.has_good_sizes.new.old)
    (g.D.Device.contents c.has_good_directories.new.old) c.as_slice.result.now c.in_ok-nodes.nodes.items
    c.is_later.result c.in_ok-good.good c.in_ok-layout.ensures.judges.1 (c.in_ok-fits.ensures.device.contents ∙ c.in_ok-layout.ensures.device.contents)
    c.in_ok-good.ensures.device.contents c.in_ok-layout.ensures.judges.2 c.is_later.ensures c.if-not-is_later.false c.in_ok-good.ensures.good c.if-not-good.false
    c.as_slice.ensures.value c.in_ok-nodes.ensures.nodes
