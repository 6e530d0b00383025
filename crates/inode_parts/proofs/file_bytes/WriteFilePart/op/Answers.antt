use Rattle.inode_parts.proofs.Lemmas.{◌≡◌, ℕ, List, Some, subst, piece, asks, op_in, inode_in, asks_bind, write_left, write_over}
use Rattle.inode_parts.proofs.file_bytes.WriteFilePart.op.Goals as goal

pub returns-in-Writing-clause-asks : goal.returns-in-Writing-clause-asks
returns-in-Writing-clause-asks c =
    let f = c.in-Writing.field-0 in
    let p = c.in-Writing.part in
    let text = c.args.text.now in
    let bytes = piece text c.in-Writing.index in
    let h = c.args.hand.now in
    let op = op_in c.op.new.hand c.op.result in
    rw c.in-Writing.is (asks_bind (write_left bytes p h) (write_over text f bytes (inode_in f.seat h)) op (subst (λ (b : List ℕ). asks (write_left b p h) ≡ Some op) c.piece.ensures.is c.op.ensures.asks))
