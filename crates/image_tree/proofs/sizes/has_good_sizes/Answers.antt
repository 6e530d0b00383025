use Rattle.image_tree.proofs.Lemmas.{◌<◌, arith, held, node_is}
use Rattle.image_tree.proofs.sizes.has_good_sizes.Goals as goal

pub returns-clause-good : goal.returns-clause-good
returns-clause-good g c =
    held _ (λ i node.
    let is = node_is (g.D.Device.contents c.args.device.now) i node in
    let bound : i < c.args.layout.now.sizes.ninodes = rw c.requires.layout.sizes is.bound in
    c.loop-i.invariant.2 i is.low (omega arith) node)
