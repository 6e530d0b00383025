use Rattle.inode_parts.proofs.Lemmas.{refl, sym, subst, ◌∙◌, Ret, bind, number_at, with_first, IsAfter, answer_in, InodePlace, loaded_in, lock_left, lock_asked, lock_seat, Comes, IsAlone, free_seat, relock_asked, RelockReady, beside_in, only_seen, RelockPart, comes_on, came_alone, came_block, came_buffers, came_goes, came_number, came_some, relock_comes, relock_leaves, is_taken, take_on, take_over}
use Rattle.inode_parts.proofs.relock_part.RelockPartOperation.next.Goals as goal

pub held-requires : goal.held-requires
held-requires c =
    let before = c.requires.came.0 in
    let h = c.args.hand.now in
    let k = c.in-Locking.seat in
    let ready = subst (λ (p : RelockPart). RelockReady p before) c.in-Locking.is c.requires.came.1 in
    let after = subst (λ (p : RelockPart). IsAfter (relock_asked p) before c.args.answer.now h) c.in-Locking.is c.requires.came.2 in
    record {
      there = came_some k before h after.0 after.1 after.2;
      number = came_number k before h after.0 after.1 after.2;
      block = came_block k before h after.0 after.1 after.2 c.in-Locking.inodestart ready.5;
      free = (came_buffers k before h after.0 after.1 after.2 ready.4).0;
    }

pub seen-requires : goal.seen-requires
seen-requires c =
    let before = c.requires.came.0 in
    let h = c.args.hand.now in
    let k = c.in-Locking.seat in
    let ready = subst (λ (p : RelockPart). RelockReady p before) c.in-Locking.is c.requires.came.1 in
    let after = subst (λ (p : RelockPart). IsAfter (relock_asked p) before c.args.answer.now h) c.in-Locking.is c.requires.came.2 in
    (c.in-None.ensures.ready.0, c.in-None.ensures.ready.1, came_alone k before h after.0 after.1 after.2 ready.3)

pub returns-in-None-clause-goes : goal.returns-in-None-clause-goes
unfolding answer_in
returns-in-None-clause-goes c path before =
    let h = c.args.hand.now in
    let k = c.in-Locking.seat in
    rw c.in-Locking.is (λ ready after.
    came_goes k before h after.0 after.1 after.2 path c.args.notes.now c.in-Locking.inodestart (Ret (loaded_in k h)) _ c.in-None.ensures.program (sym (c.seen.ensures.program path)))

pub returns-in-Some-clause-goes : goal.returns-in-Some-clause-goes
unfolding answer_in
returns-in-Some-clause-goes c path before =
    let h = c.args.hand.now in
    let m = c.args.notes.now in
    let k = c.in-Locking.seat in
    let lock = c.in-Some.lock in
    let at = sym c.in-Some.ensures.ready.1 in
    rw c.in-Locking.is (λ ready after.
    came_goes k before h after.0 after.1 after.2 path m c.in-Locking.inodestart (lock_left lock h) _ c.in-Some.ensures.program
    (λ i. bind (lock_left lock h) (only_seen path (beside_in path m (at i) h) (number_at (at i) h))))

pub returns-in-Some-clause-ready : goal.returns-in-Some-clause-ready
returns-in-Some-clause-ready c =
    let before = c.requires.came.0 in
    let h = c.args.hand.now in
    let k = c.in-Locking.seat in
    let ready = subst (λ (p : RelockPart). RelockReady p before) c.in-Locking.is c.requires.came.1 in
    let after = subst (λ (p : RelockPart). IsAfter (relock_asked p) before c.args.answer.now h) c.in-Locking.is c.requires.came.2 in
    let is = c.in-Some.ensures.ready in
    (is.0, subst (λ (k : InodePlace). IsAlone (number_at k h) k h) (sym is.1) (came_alone k before h after.0 after.1 after.2 ready.3))

pub returns-in-None-next-clause-goes : goal.returns-in-None-next-clause-goes
returns-in-None-next-clause-goes c path before =
    let r = c.in-Loading.lock in
    let h = c.next.new.hand in
    let s = c.next.new.self in
    let did = c.in-None-next.ensures in
    rw c.in-Loading.is (λ ready after.
    take_on (only_seen path) path c.args.notes.now (lock_seat r) before h (lock_left r before) (answer_in (lock_asked r) c.args.answer.now c.args.hand.now) (did.beside before ready.0 after) (lock_seat s) (lock_left s h) did.about (did.goes before ready.0 after))

pub returns-in-Some-next-clause-goes : goal.returns-in-Some-next-clause-goes
returns-in-Some-next-clause-goes c path before =
    let r = c.in-Loading.lock in
    let did = c.in-Some-next.ensures in
    rw c.in-Loading.is (λ ready after.
    take_over (only_seen path) path c.args.notes.now (lock_seat r) before c.next.new.hand (lock_left r before) (answer_in (lock_asked r) c.args.answer.now c.args.hand.now) (did.beside before ready.0 after) c.in-Some-next.seat _ did.ends.0
    (sym (c.seen-in-Some-next.ensures.program path)) (did.goes before ready.0 after))

pub returns-in-None-clause-leaves : goal.returns-in-None-clause-leaves
returns-in-None-clause-leaves c version path n start before =
    let h = c.args.hand.now in
    let k = c.in-Locking.seat in
    let is = c.in-None.ensures.ready in
    rw c.in-Locking.is (λ amid ready after.
    relock_leaves n start amid.0 k amid.1 version path c.args.notes.now c.seen.new.notes h c.seen.result (relock_comes n start amid.0 k amid.1 before h after.0 amid.2 after.1)
    (is.0, is.1, came_alone k before h after.0 after.1 after.2 ready.3) is.2 (c.seen.ensures.sees version path))

pub returns-in-Some-clause-leaves : goal.returns-in-Some-clause-leaves
returns-in-Some-clause-leaves c version path n start before =
    let h = c.args.hand.now in
    let k = c.in-Locking.seat in
    let at = c.in-Some.ensures.ready.1 in
    rw c.in-Locking.is (λ amid ready after.
    let comes = relock_comes n start amid.0 k amid.1 before h after.0 amid.2 after.1 in
    ((amid.0, at ∙ amid.1, subst (λ (k : InodePlace). Comes k (with_first (free_seat start) start) h) (sym at) comes), refl))

pub returns-in-None-next-clause-leaves : goal.returns-in-None-next-clause-leaves
returns-in-None-next-clause-leaves c version path n start before =
    let r = c.in-Loading.lock in
    let h = c.next.new.hand in
    let did = c.in-None-next.ensures in
    rw c.in-Loading.is (λ amid ready after.
    let comes = comes_on (lock_seat r) (lock_seat c.next.new.self) (with_first (free_seat start) start) before h did.about (did.beside before ready.0 after) amid.2 in
    ((amid.0, did.about ∙ amid.1, comes), refl))

pub returns-in-Some-next-clause-leaves : goal.returns-in-Some-next-clause-leaves
returns-in-Some-next-clause-leaves c version path n start before =
    let r = c.in-Loading.lock in
    let k = c.in-Some-next.seat in
    let h = c.next.new.hand in
    let ends = c.in-Some-next.ensures.ends in
    rw c.in-Loading.is (λ amid ready after.
    let same = c.in-Some-next.ensures.beside before ready.0 after in
    relock_leaves n start amid.0 k (ends.0 ∙ amid.1) version path c.args.notes.now c.seen-in-Some-next.new.notes h c.seen-in-Some-next.result
    (comes_on (lock_seat r) k (with_first (free_seat start) start) before h ends.0 same amid.2) (is_taken (lock_seat r) k before h ends.0 same ready.1 ends.1) ends.1.2
    (c.seen-in-Some-next.ensures.sees version path))
