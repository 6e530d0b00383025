use Rattle.inode_parts.proofs.Lemmas.{refl, length, sym, ap, ◌∙◌, piece, write_left, begun_deny, begun_write, done_so}
use Rattle.inode_parts.proofs.part.InodePart.begin_write_file.Goals as goal

pub returns-in-Some-clause-part : goal.returns-in-Some-clause-part
returns-in-Some-clause-part c offset begins =
    let f = c.locked_file-file in
    let text = c.args.text.now in
    let bytes = piece text c.args.index in
    let refused = sym (c.refused.ensures.is bytes (ap length (sym c.piece-len.ensures.is))) ∙ c.in-Some.is in
    begun_deny c.args.sizes.now text c.args.notes.now c.args.number c.args.fd offset bytes c.args.hand.now begins.0.0 begins.0.4 f.result c.record_at-inode.result.now
    f.ensures.seat f.ensures.fd (f.ensures.offset offset begins.0.3) c.record_at-inode.ensures c.in-Some.why refused

pub returns-in-None-clause-part : goal.returns-in-None-clause-part
returns-in-None-clause-part c offset begins =
    let f = c.locked_file-file in
    let text = c.args.text.now in
    let h = c.args.hand.now in
    let bytes = piece text c.args.index in
    let len = ap length (sym c.piece-len.ensures.is) in
    let fits = sym (c.refused.ensures.is bytes len) ∙ c.in-None.is in
    begun_write c.args.sizes.now text c.args.notes.now c.args.number c.args.fd offset bytes h begins.0.0 begins.0.4 f.result c.record_at-inode.result.now
    f.ensures.seat f.ensures.fd (f.ensures.offset offset begins.0.3) c.record_at-inode.ensures (write_left bytes c.begin-part.result h) fits (c.begin-part.ensures.program bytes h len)

pub returns-in-None-clause-told : goal.returns-in-None-clause-told
returns-in-None-clause-told c =
    let h = c.args.hand.now in
    let begins = c.requires.begins.1 in
    let bytes = piece c.args.text.now c.args.index in
    ((c.requires.stands, done_so bytes c.begin-part.result h (c.begin-part.ensures.ready bytes h begins.0.2 begins.1)), refl)
