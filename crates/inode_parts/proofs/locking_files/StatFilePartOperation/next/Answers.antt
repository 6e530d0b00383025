use Rattle.inode_parts.proofs.Lemmas.{Some, ap, refl, subst, ◌∙◌, Ret, Refuses, Locks, Goes, answer_in, loaded_in, file_left, file_asked, file_seat, file_value, FileEnds, FileLocked, face_by, stat_ends, comes_on, file_opens, never_came, told_at, untold, lock_on, lock_over, other_free}
use Rattle.inode_parts.proofs.locking_files.StatFilePartOperation.next.Goals as goal

pub returns-in-None-clause-goes : goal.returns-in-None-clause-goes
returns-in-None-clause-goes c path before ready after =
    let p = c.args.self.now in
    let h = c.next.new.hand in
    let q = c.next.new.self in
    let did = c.in-None.ensures in
    lock_on (stat_ends path) path c.args.notes.now (file_seat p.lock) before h (file_left p.lock before) (answer_in (file_asked p.lock) c.args.answer.now c.args.hand.now) (did.beside before ready.0 after) (file_seat q) (file_left q h) did.about (did.goes before ready.0 after)

pub returns-in-None-clause-ready : goal.returns-in-None-clause-ready
returns-in-None-clause-ready c =
    let p = c.args.self.now in
    let did = c.in-None.ensures in
    let came = c.requires.came in
    (did.ready, other_free (file_seat p.lock) (file_seat c.next.new.self) came.0 c.next.new.hand did.about (did.beside came.0 came.1.0 came.2) came.1.1)

pub returns-in-Some-Refused-clause-goes : goal.returns-in-Some-Refused-clause-goes
returns-in-Some-Refused-clause-goes c path before ready after =
    let p = c.args.self.now in
    let h = c.next.new.hand in
    let k = file_seat p.lock in
    let why = c.in-Some-Refused.field-0-0 in
    let did = c.in-Some-Refused.ensures in
    let is = c.in-Some-Refused.field-0-is in
    let answer = answer_in (file_asked p.lock) c.args.answer.now c.args.hand.now in
    let ends = subst (λ (x : FileLocked). FileEnds p.lock x h) is did.ends in
    let goes = subst (λ (x : FileLocked). Goes (file_left p.lock before) answer (Ret (file_value x h))) is (did.goes before ready.0 after) in
    lock_over (stat_ends path) path c.args.notes.now k before h (file_left p.lock before) answer (did.beside before ready.0 after) (Refuses why) _
    (untold path c.args.notes.now k h why ends.0) goes

pub returns-in-Some-Locked-clause-goes : goal.returns-in-Some-Locked-clause-goes
returns-in-Some-Locked-clause-goes c path before ready after =
    let p = c.args.self.now in
    let h = c.next.new.hand in
    let k = file_seat p.lock in
    let held = c.in-Some-Locked.held in
    let did = c.in-Some-Locked.ensures in
    let is = c.in-Some-Locked.field-0-is in
    let answer = answer_in (file_asked p.lock) c.args.answer.now c.args.hand.now in
    let ends = subst (λ (x : FileLocked). FileEnds p.lock x h) is did.ends in
    let goes = subst (λ (x : FileLocked). Goes (file_left p.lock before) answer (Ret (file_value x h))) is (did.goes before ready.0 after) in
    let same = did.beside before ready.0 after in
    lock_over (stat_ends path) path c.args.notes.now k before h (file_left p.lock before) answer same (Locks held.file (Some (loaded_in held.seat h))) _
    (told_at path c.args.notes.now c.set.new.self h held k ends.0 ends.1 (other_free k k before h refl same ready.1) held.file.number c.face.result refl (c.face.ensures.is ∙ ap face_by c.record_at-inode.ensures) c.set.ensures) goes

pub returns-in-None-clause-leaves : goal.returns-in-None-clause-leaves
returns-in-None-clause-leaves c version path fd start before amid ready after =
    let did = c.in-None.ensures in
    (comes_on (file_seat c.args.self.now.lock) (file_seat c.next.new.self) start before c.next.new.hand did.about (did.beside before ready.0 after) amid, refl)

pub returns-in-Some-Refused-clause-leaves : goal.returns-in-Some-Refused-clause-leaves
returns-in-Some-Refused-clause-leaves c version path fd start before amid ready after =
    let p = c.args.self.now in
    let k = file_seat p.lock in
    let h = c.next.new.hand in
    let did = c.in-Some-Refused.ensures in
    let ends = subst (λ (x : FileLocked). FileEnds p.lock x h) c.in-Some-Refused.field-0-is did.ends in
    (never_came k start h (comes_on k k start before h refl (did.beside before ready.0 after) amid) ends.1 ends.0, tt)

pub returns-in-Some-Locked-clause-leaves : goal.returns-in-Some-Locked-clause-leaves
returns-in-Some-Locked-clause-leaves c version path fd start before amid ready after =
    let p = c.args.self.now in
    let k = file_seat p.lock in
    let h = c.next.new.hand in
    let did = c.in-Some-Locked.ensures in
    let ends = subst (λ (x : FileLocked). FileEnds p.lock x h) c.in-Some-Locked.field-0-is did.ends in
    (file_opens k start before h c.in-Some-Locked.held ends.0 ends.1 (did.beside before ready.0 after) amid, tt)
