use Rattle.inode_parts.proofs.Lemmas.{ℕ, List, ap, subst, ◌∙◌, Goes, answer_in, IsAfter, beside_buffers, write_asked, write_left, write_file_asked, WriteFileReady, WriteFileTold, WriteFilePart, ready_for, write_on, loaded_still, other_still}
use Rattle.inode_parts.proofs.file_bytes.WriteFilePart.next.Goals as goal

pub returns-in-None-clause-goes : goal.returns-in-None-clause-goes
returns-in-None-clause-goes c notes before =
    let p = c.in-Writing.part in
    let at = c.in-Writing.index in
    let h = c.next.new.hand in
    let text = c.args.text.now in
    let did = c.in-None.ensures in
    let read = c.piece-bytes.ensures.is in
    let answer = answer_in (write_asked p) c.args.answer.now c.args.hand.now in
    let told = subst (λ (p : WriteFilePart). WriteFileTold text p) c.in-Writing.is c.requires.told in
    rw c.in-Writing.is (λ ready after.
    let has = ready_for text at p before c.piece-bytes.result.now read told.1 ready.2 in
    let same = ap (beside_buffers tt) did.same ∙ did.beside before has after in
    write_on text c.in-Writing.file at p before h answer same c.next.new.self
    (subst (λ (b : List ℕ). Goes (write_left b p before) answer (write_left b c.next.new.self h)) read (did.goes before has after)))

pub returns-in-None-clause-ready : goal.returns-in-None-clause-ready
returns-in-None-clause-ready c =
    let f = c.in-Writing.file in
    let p = c.in-Writing.part in
    let h = c.next.new.hand in
    let text = c.args.text.now in
    let did = c.in-None.ensures in
    let before = c.requires.came.0 in
    let told = subst (λ (p : WriteFilePart). WriteFileTold text p) c.in-Writing.is c.requires.told in
    let ready = subst (λ (p : WriteFilePart). WriteFileReady p before) c.in-Writing.is c.requires.came.1 in
    let after = subst (λ (p : WriteFilePart). IsAfter (write_file_asked p) before c.args.answer.now c.args.hand.now) c.in-Writing.is c.requires.came.2 in
    let has = ready_for text c.in-Writing.index p before c.piece-bytes.result.now c.piece-bytes.ensures.is told.1 ready.2 in
    let same = ap (beside_buffers tt) did.same ∙ did.beside before has after in
    (loaded_still f.seat before h same ready.0, other_still f.seat before h same ready.1, (c.piece-bytes.result.now, did.ready))
