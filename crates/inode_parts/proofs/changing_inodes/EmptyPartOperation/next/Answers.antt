use Rattle.inode_parts.proofs.Lemmas.{refl, sym, subst, answer_in, empty_part_asked, empty_seat, empty_on, emptying_of, freeing-kept, IsAmid, Emptying, leaves_changed, still_amid}
use Rattle.inode_parts.specs.declared.note.Note.TheVariants as note
use Rattle.inode_parts.proofs.changing_inodes.EmptyPartOperation.next.Goals as goal

pub returns-in-None-clause-goes : goal.returns-in-None-clause-goes
returns-in-None-clause-goes c path before ready after =
    let p = c.args.self.now in
    let did = c.in-None.ensures in
    empty_on path c.args.notes.now p before c.next.new.hand (answer_in (empty_part_asked p) c.args.answer.now c.args.hand.now) (did.beside before ready after) (record { truncate = c.next.new.self }) did.about (did.goes before ready after)

pub returns-in-None-clause-leaves : goal.returns-in-None-clause-leaves
returns-in-None-clause-leaves c version path n start before amid ready after =
    let p = c.args.self.now in
    let h = c.next.new.hand in
    let did = c.in-None.ensures in
    let still = still_amid n start (empty_seat p) before h (freeing-kept (emptying_of p.truncate) h before (did.beside before ready after)) amid in
    (subst (λ (e : Emptying). IsAmid n start e.seat h) (sym did.about) still, refl)

pub returns-in-Some-clause-leaves : goal.returns-in-Some-clause-leaves
returns-in-Some-clause-leaves c version path n start before amid ready after =
    let p = c.args.self.now in
    let h = c.next.new.hand in
    let e = c.in-Some.emptying in
    let did = c.in-Some.ensures in
    let still = still_amid n start (empty_seat p) before h (freeing-kept (emptying_of p.truncate) h before (did.beside before ready after)) amid in
    let at = subst (λ (e : Emptying). IsAmid n start e.seat h) (sym did.ends.0) still in
    leaves_changed n start h e.seat at did.ends.2 c.args.notes.now c.set.new.self note.Nothing c.set.ensures did.ends.1.0
