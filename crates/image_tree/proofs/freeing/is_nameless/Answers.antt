use Rattle.image_tree.proofs.Lemmas.{◌∙◌, subst, ◌<◌, Super, orphan_is}
use Rattle.image_tree.proofs.freeing.is_nameless.Goals as goal

pub returns-clause-is : goal.returns-clause-is
returns-clause-is g c =
    c.has_no_name.ensures
    ∙ orphan_is (g.D.Device.contents c.args.device.now) c.args.i c.in_ok-inode.inode c.in_ok-inode.ensures.inode c.requires.low
    (subst (λ (s : Super). c.args.i < s.ninodes) c.requires.layout.sizes c.requires.bound)
