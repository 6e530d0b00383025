use Rattle.std.proofs.Common.{◌<◌, arith}
use Rattle.image_tree.proofs.Nodes.{directory_is}
use Rattle.image_tree.proofs.Told.{held}
use Rattle.migration.proofs.directories.has_good_directories.Goals as goal

pub returns-clause-good : goal.returns-clause-good
returns-clause-good g c =
    held _ (λ i live.
    let is = directory_is (g.D.Device.contents c.args.old.now) i live in
    let bound : i < c.args.layout.now.sizes.ninodes = rw c.requires.layout.sizes is.bound in
    c.loop-i.invariant.2 i is.low (omega arith) live)
