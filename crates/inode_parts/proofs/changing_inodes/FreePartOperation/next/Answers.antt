use Rattle.inode_parts.proofs.Lemmas.{◌≡◌, [], refl, subst, answer_in, freeing_asked, free_on, free_over, free_stays, InodePlace, beside_inode, reloads, stands, still_amid}
use Rattle.inode_parts.specs.declared.note.Note.TheVariants as note
use Rattle.inode_parts.proofs.changing_inodes.FreePartOperation.next.Goals as goal

pub returns-in-None-clause-goes : goal.returns-in-None-clause-goes
returns-in-None-clause-goes c path before ready after =
    let p = c.args.self.now in
    let did = c.in-None.ensures in
    free_on path c.args.notes.now p.seat p.free before c.next.new.hand (answer_in (freeing_asked p.free) c.args.answer.now c.args.hand.now) ready.1 (did.beside before ready.0 after) c.next.new.self (did.goes before ready.0 after)

pub returns-in-None-clause-ready : goal.returns-in-None-clause-ready
returns-in-None-clause-ready c =
    let p = c.args.self.now in
    let did = c.in-None.ensures in
    let came = c.requires.came in
    let stays = free_stays [] c.args.notes.now p.seat p.free came.0 c.next.new.hand (answer_in (freeing_asked p.free) c.args.answer.now c.args.hand.now) came.1.1 (did.beside came.0 came.1.0 came.2) c.next.new.self did.about came.1.2 came.1.3 in
    (did.ready, stays.0, stays.1, stays.2)

pub returns-in-Some-clause-goes : goal.returns-in-Some-clause-goes
returns-in-Some-clause-goes c path before ready after =
    let p = c.args.self.now in
    let did = c.in-Some.ensures in
    free_over path c.args.notes.now p.seat p.free before c.next.new.hand (answer_in (freeing_asked p.free) c.args.answer.now c.args.hand.now) ready.1 (did.beside before ready.0 after) c.set.new.self c.set.ensures ready.2 ready.3 did.ends.0 (did.goes before ready.0 after)

pub returns-in-None-clause-leaves : goal.returns-in-None-clause-leaves
returns-in-None-clause-leaves c version path n start before amid ready after =
    let p = c.args.self.now in
    let h = c.next.new.hand in
    let same = subst (λ (k : InodePlace). beside_inode k h ≡ beside_inode k before) ready.1 (c.in-None.ensures.beside before ready.0 after) in
    (still_amid n start p.seat before h same amid, refl)

pub returns-in-Some-clause-leaves : goal.returns-in-Some-clause-leaves
returns-in-Some-clause-leaves c version path n start before amid ready after =
    let p = c.args.self.now in
    let h = c.next.new.hand in
    let did = c.in-Some.ensures in
    let same = subst (λ (k : InodePlace). beside_inode k h ≡ beside_inode k before) ready.1 (did.beside before ready.0 after) in
    let still = still_amid n start p.seat before h same amid in
    (reloads n start h p.seat still did.ends.1, stands n start h p.seat still did.ends.1 c.args.notes.now c.set.new.self note.Freed c.set.ensures)
