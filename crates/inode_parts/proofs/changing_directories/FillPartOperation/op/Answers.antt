use Rattle.inode_parts.proofs.Lemmas.{op_in, asks_bind, fill_left, filled}
use Rattle.inode_parts.proofs.changing_directories.FillPartOperation.op.Goals as goal

pub returns-clause-asks : goal.returns-clause-asks
returns-clause-asks c path notes =
    let p = c.args.self.now in
    let h = c.args.hand.now in
    asks_bind (fill_left p.fill h) (filled path notes p.seat h) (op_in c.op.new.hand c.op.result) c.op.ensures.asks
