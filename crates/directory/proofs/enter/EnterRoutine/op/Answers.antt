use Rattle.directory.proofs.Lemmas.{entered_by, index_at, on_disk, op_in, write_left, asks_bind}
use Rattle.directory.proofs.enter.EnterRoutine.op.Goals as goal

pub returns-in-Writing-clause-asks : goal.returns-in-Writing-clause-asks
returns-in-Writing-clause-asks c =
    let p = c.in-Writing.placing in
    let m = c.in-Writing.part in
    let h = c.args.hand.now in
    let asks = rw c.entry_in.ensures at c.op-in-Writing.ensures.asks in
    rw c.in-Writing.is
    (asks_bind (write_left (on_disk p.version p.entry) m h) (entered_by p.version p.slot (on_disk p.version p.entry) (index_at p.seat h)) (op_in c.op-in-Writing.new.hand c.op-in-Writing.result) asks)
