use Rattle.image_tree.proofs.Lemmas.{◌∙◌, ap, sym, ◌%◌, dinode_at, inode_at, inodes_per_block}
use Rattle.image_tree.proofs.disk.load_inode.Goals as goal

pub returns-clause-inode : goal.returns-clause-inode
returns-clause-inode g c =
    c.read_dinode.ensures ∙ ap (dinode_at (c.args.i % inodes_per_block)) c.in_ok-load.ensures.read
    ∙ sym (inode_at (g.D.Device.contents c.args.device.now) c.args.layout.now c.args.i c.requires.layout)
