use Rattle.inode_parts.proofs.Lemmas.{op_in, freeing_left, number_in, free_ends, beside_in}
use Rattle.inode_parts.proofs.Afterwards.{asks_bind}
use Rattle.inode_parts.proofs.changing_inodes.FreePartOperation.op.Goals as goal

pub returns-clause-asks : goal.returns-clause-asks
returns-clause-asks c path m =
    let p = c.args.self.now in
    let h = c.args.hand.now in
    asks_bind (freeing_left p.free h) (free_ends path (beside_in path m p.seat h) (number_in p.seat h)) (op_in c.op.new.hand c.op.result) c.op.ensures.asks
