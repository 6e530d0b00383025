use Rattle.directory.proofs.Lemmas.{ap, ◌∙◌, ℕ, take, dots_in, op_in, write_left, filled_by, asks_bind}
use Rattle.directory.proofs.fill.FillRoutine.op.Goals as goal

pub returns-clause-asks : goal.returns-clause-asks
returns-clause-asks c =
    let m = c.args.self.now in
    let asks = rw (ap (λ (n : ℕ). take n c.dots-bytes.result) c.new_directory_size.ensures ∙ c.dots-bytes.ensures) at c.op.ensures.asks in
    asks_bind (write_left (dots_in m) m.part c.args.hand.now) (filled_by m.version) (op_in c.op.new.hand c.op.result) asks
