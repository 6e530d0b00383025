use Rattle.inode_data.proofs.Lemmas.{◌∙◌, arith, whole_read}
use Rattle.inode_data.proofs.read_part.ReadPart.begin.Goals as goal

pub returns-clause-program : goal.returns-clause-program
returns-clause-program c bytes h =
    c.next.ensures.program bytes h ∙ whole_read c.args.inode.now c.args.offset c.args.count c.blocks-2.result c.min-upto.result bytes (omega arith) c.blocks-2.ensures

pub returns-clause-ready : goal.returns-clause-ready
returns-clause-ready c bytes h none room = c.next.ensures.ready bytes h none (omega arith)
