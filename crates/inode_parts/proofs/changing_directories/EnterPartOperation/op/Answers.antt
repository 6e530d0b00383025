use Rattle.inode_parts.proofs.Lemmas.{op_in, asks_bind, enter_left, enter_seat, entered}
use Rattle.inode_parts.proofs.changing_directories.EnterPartOperation.op.Goals as goal

pub returns-clause-asks : goal.returns-clause-asks
returns-clause-asks c path notes =
    let p = c.args.self.now in
    let h = c.args.hand.now in
    asks_bind (enter_left p.enter h) (entered path notes (enter_seat p.enter) h) (op_in c.op.new.hand c.op.result) c.op.ensures.asks
