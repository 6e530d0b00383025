use Rattle.inode_parts.proofs.Lemmas.{subst, Dinode, Goes, answer_in, read_asked, read_left, ReadFileTold, ReadFilePart, read_on, room_so}
use Rattle.inode_parts.proofs.file_bytes.ReadFilePart.next.Goals as goal

pub returns-in-None-clause-goes : goal.returns-in-None-clause-goes
returns-in-None-clause-goes c notes before =
    let p = c.in-Reading.part in
    let h = c.args.hand.now in
    let old = c.args.text.now in
    let new = c.next.new.memory in
    let did = c.in-None.ensures in
    let answer = answer_in (read_asked p) c.args.answer.now h in
    let room = subst (λ (p : ReadFilePart). ReadFileTold old p) c.in-Reading.is c.requires.told in
    rw c.in-Reading.is (λ ready after.
    let has = room_so ready.3.0 old p before room ready.3.1 in
    read_on old new c.in-Reading.file p before h answer (did.beside before has after) c.next.new.self
    (subst (λ (d : Dinode). Goes (read_left d old p before) answer (read_left d new c.next.new.self h)) c.record_at-inode.ensures (did.goes before has after)))
