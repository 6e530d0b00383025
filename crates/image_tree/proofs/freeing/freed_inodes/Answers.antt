use Rattle.image_tree.proofs.Lemmas.{◌∙◌, ap, sym, ◌%◌, dinode_at, freed_inode, inode_at, inodes_per_block}
use Rattle.image_tree.proofs.freeing.freed_inodes.Goals as goal

pub returns-clause-emptied : goal.returns-clause-emptied
returns-clause-emptied g c =
    c.write_dinode.ensures.reads_back ∙ c.freed.ensures
    ∙ ap freed_inode
    (c.read_dinode-inode.ensures ∙ ap (dinode_at (c.args.i % inodes_per_block)) c.in_ok-load.ensures.read
    ∙ sym (inode_at (g.D.Device.contents c.args.device.now) c.args.layout.now c.args.i c.requires.layout))
