use Rattle.image_tree.proofs.Lemmas.{arith, short_is_one}
use Rattle.image_tree.proofs.heads.find_version.Goals as goal

pub returns-then-blocks-le-SUPER_BLOCK-clause-version : goal.returns-then-blocks-le-SUPER_BLOCK-clause-version
returns-then-blocks-le-SUPER_BLOCK-clause-version g c = short_is_one (g.D.Device.contents c.args.device.now) (omega arith)
