use Rattle.inode_parts.proofs.Lemmas.{◌≡◌, ℕ, List, Some, subst, asks, op_in, second_in, text_in, whole_with, part_left, asks_with, in_two}
use Rattle.inode_parts.proofs.lowered.LoweredControl.op.Goals as goal

pub op-requires-clause-told : goal.op-requires-clause-told
op-requires-clause-told c = (second_in c.args.self.now.call, c.requires.ready.told)

pub returns-clause-asks : goal.returns-clause-asks
returns-clause-asks c =
    let l = c.args.self.now in
    let h = c.args.hand.now in
    let op = op_in c.op.new.hand c.op.result in
    asks_with l.sizes (part_left (text_in l.call) l.notes l.part h) (whole_with l.sizes.version l.list l.call) op
    (subst (λ (t : List ℕ). asks (part_left t l.notes l.part h) ≡ Some op) (in_two l.call) (c.op.ensures.asks (second_in l.call) l.notes c.requires.ready.told))
