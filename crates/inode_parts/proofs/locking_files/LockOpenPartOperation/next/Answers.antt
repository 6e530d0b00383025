use Rattle.inode_parts.proofs.Lemmas.{refl, loaded_in, answer_in, open_left, open_asked, open_seat, open_ends, lock_on, lock_over, other_free, comes_on, file_learned, file_opens, opened_at}
use Rattle.inode_parts.proofs.locking_files.LockOpenPartOperation.next.Goals as goal

pub returns-in-None-clause-goes : goal.returns-in-None-clause-goes
returns-in-None-clause-goes c path before ready after =
    let p = c.args.self.now in
    let h = c.next.new.hand in
    let q = c.next.new.self in
    let did = c.in-None.ensures in
    lock_on (open_ends path p.fd) path c.args.notes.now (open_seat p.lock) before h (open_left p.lock before) (answer_in (open_asked p.lock) c.args.answer.now c.args.hand.now) (did.beside before ready.0 after) (open_seat q) (open_left q h) did.about (did.goes before ready.0 after)

pub returns-in-None-clause-ready : goal.returns-in-None-clause-ready
returns-in-None-clause-ready c =
    let p = c.args.self.now in
    let did = c.in-None.ensures in
    let came = c.requires.came in
    (did.ready, other_free (open_seat p.lock) (open_seat c.next.new.self) came.0 c.next.new.hand did.about (did.beside came.0 came.1.0 came.2) came.1.1)

pub returns-in-Some-clause-goes : goal.returns-in-Some-clause-goes
returns-in-Some-clause-goes c path before ready after =
    let p = c.args.self.now in
    let h = c.next.new.hand in
    let k = open_seat p.lock in
    let did = c.in-Some.ensures in
    let same = did.beside before ready.0 after in
    let alone = other_free k k before h refl same ready.1 in
    lock_over (open_ends path p.fd) path c.args.notes.now k before h (open_left p.lock before) (answer_in (open_asked p.lock) c.args.answer.now c.args.hand.now) same (c.in-Some.held.file, loaded_in c.in-Some.held.seat h) _
    (opened_at path c.args.notes.now c.set.new.self h c.in-Some.held k did.ends.0 did.ends.1 alone p.fd c.from.result c.from.ensures c.set.ensures)
    (did.goes before ready.0 after)

pub returns-in-None-clause-leaves : goal.returns-in-None-clause-leaves
returns-in-None-clause-leaves c version path a start before amid ready after =
    let did = c.in-None.ensures in
    ((amid.0, comes_on (open_seat c.args.self.now.lock) (open_seat c.next.new.self) start before c.next.new.hand did.about (did.beside before ready.0 after) amid.1), refl)

pub returns-in-Some-clause-leaves : goal.returns-in-Some-clause-leaves
returns-in-Some-clause-leaves c version path a start before amid ready after =
    let p = c.args.self.now in
    let k = open_seat p.lock in
    let h = c.next.new.hand in
    let f = c.in-Some.held in
    let did = c.in-Some.ensures in
    let same = did.beside before ready.0 after in (
      file_opens k start before h f did.ends.0 did.ends.1 same amid.1,
      file_learned k start before h f did.ends.0 did.ends.1 same amid.1 c.args.notes.now c.set.new.self a.0 p.fd c.from.result ready.1 amid.0 c.from.ensures c.set.ensures,
    )
