use Rattle.migration.proofs.Contents.{is_fit, shown_fit}
use Rattle.migration.proofs.MigratedImages.{is_migrated}
use Rattle.migration.proofs.migration.migrate_from.Goals as goal

pub image_bytes-requires-clause-contents : goal.image_bytes-requires-clause-contents
image_bytes-requires-clause-contents g c =
    (shown_fit c.args.size c.in_ok-taken.taken c.as_slice.result.now
    (is_fit c.args.from c.args.version c.args.size (g.D.Device.contents c.args.old.now) c.in_ok-taken.taken c.in_ok-taken.ensures.taken) c.as_slice.ensures.value).0

pub image_bytes-requires-clause-ninodes : goal.image_bytes-requires-clause-ninodes
image_bytes-requires-clause-ninodes g c =
    (shown_fit c.args.size c.in_ok-taken.taken c.as_slice.result.now
    (is_fit c.args.from c.args.version c.args.size (g.D.Device.contents c.args.old.now) c.in_ok-taken.taken c.in_ok-taken.ensures.taken) c.as_slice.ensures.value).1

pub returns-clause-made : goal.returns-clause-made
returns-clause-made g c =
    is_migrated c.args.from c.args.version c.args.size (g.D.Device.contents c.args.old.now) (g.D.Device.contents c.take.new.old) c.in_ok-taken.taken
    c.as_slice.result.now c.in_ok-bytes.bytes.items c.new.result c.in_ok-taken.ensures.taken (g.met.D.Device.whole c.args.old.now)
    c.in_ok-taken.ensures.device.contents c.blocks-count.ensures.bytes c.as_slice.ensures.value c.in_ok-bytes.ensures c.new.ensures.bytes
