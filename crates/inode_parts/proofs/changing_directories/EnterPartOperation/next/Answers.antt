use Rattle.inode_parts.proofs.Lemmas.{◌≡◌, refl, sym, subst, Ret, answer_in, InodePlace, IsAmid, enter_seat, entered, entered_as, handed, enter_part_asked, Part, enter_ends, enter_on, inode_over, still_amid}
use Rattle.inode_parts.proofs.changing_directories.EnterPartOperation.next.Goals as goal

pub returns-in-None-clause-goes : goal.returns-in-None-clause-goes
returns-in-None-clause-goes c path before ready after =
    let p = c.args.self.now in
    let did = c.in-None.ensures in
    enter_on path c.args.notes.now p before c.next.new.hand (answer_in (enter_part_asked p) c.args.answer.now c.args.hand.now) (did.beside before ready after) (record { enter = c.next.new.self }) did.about (did.goes before ready after)

pub returns-in-Some-clause-goes : goal.returns-in-Some-clause-goes
returns-in-Some-clause-goes c path before ready after =
    let p = c.args.self.now in
    let m = c.args.notes.now in
    let h = c.next.new.hand in
    let r = c.in-Some.entered in
    let did = c.in-Some.ensures in
    let answer = answer_in (enter_part_asked p) c.args.answer.now c.args.hand.now in
    let last : Part = Ret (handed path c.hear.new.notes c.hear.result c.hear.new.hand) in
    enter_ends path m p before h answer (did.beside before ready after) (entered_as r h) last
    (subst (λ (k : InodePlace). entered path m k h (entered_as r h) ≡ last) did.ends.1 (c.hear.ensures.is path)) (did.goes before ready after)

pub returns-in-None-clause-leaves : goal.returns-in-None-clause-leaves
returns-in-None-clause-leaves c version path a start before amid ready after =
    let k = enter_seat c.args.self.now.enter in
    let h = c.next.new.hand in
    let did = c.in-None.ensures in
    let still = still_amid a.0 start k before h (inode_over k before h (did.beside before ready after)) amid in
    (subst (λ (k : InodePlace). IsAmid a.0 start k h) (sym did.about) still, refl)

pub returns-in-Some-clause-leaves : goal.returns-in-Some-clause-leaves
returns-in-Some-clause-leaves c version path a start before amid ready after =
    let k = enter_seat c.args.self.now.enter in
    let h = c.next.new.hand in
    let did = c.in-Some.ensures in
    let still = still_amid a.0 start k before h (inode_over k before h (did.beside before ready after)) amid in
    c.hear.ensures.leaves a.0 start (subst (λ (k : InodePlace). IsAmid a.0 start k h) (sym did.ends.1) still) did.ends.0
