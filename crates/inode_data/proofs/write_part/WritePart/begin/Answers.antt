use Rattle.inode_data.proofs.Lemmas.{◌∙◌, refl, whole_so}
use Rattle.inode_data.proofs.write_part.WritePart.begin.Goals as goal

pub returns-clause-program : goal.returns-clause-program
returns-clause-program c bytes h e =
    c.onward.ensures.program bytes h
    ∙ whole_so (record { number = c.args.number; sizes = c.args.sizes.now; at = c.args.offset; done = 0; left = c.blocks-2.result }) bytes c.args.count c.args.inode.now refl c.blocks-2.ensures e
