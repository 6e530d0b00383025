use Rattle.inode_parts.proofs.Lemmas.{◌≡◌, None, refl, subst, ◌∙◌, buffer_at, Place, InodePlace, IsLoadedAt, record_place, second-kept, buffer_beside, leaves_changed, still_amid}
use Rattle.inode_parts.specs.declared.note.Note.TheVariants as note
use Rattle.inode_parts.proofs.changing_inodes.StorePartOperation.next.Goals as goal

pub returns-in-None-clause-ready : goal.returns-in-None-clause-ready
returns-in-None-clause-ready c =
    let p = c.args.self.now in
    let did = c.in-None.ensures in
    let came = c.requires.came in
    let second = second-kept (record_place p.store) c.args.hand.now came.0 came.1.2 (did.beside came.0 came.2) in
    (did.ready, did.about ∙ came.1.1, did.place ∙ came.1.2, second ∙ came.1.3)

pub returns-in-None-clause-leaves : goal.returns-in-None-clause-leaves
returns-in-None-clause-leaves c version path a start before amid ready after =
    let p = c.args.self.now in
    let h = c.args.hand.now in
    let same = c.in-None.ensures.beside before after in
    (still_amid a.0 start p.seat before h (buffer_beside (record_place p.store) p.seat before h same) amid, refl)

pub returns-in-Some-clause-leaves : goal.returns-in-Some-clause-leaves
returns-in-Some-clause-leaves c version path a start before amid ready after =
    let p = c.args.self.now in
    let h = c.args.hand.now in
    let did = c.in-Some.ensures in
    let same = did.beside before after in
    let still = still_amid a.0 start p.seat before h (buffer_beside (record_place p.store) p.seat before h same) amid in
    let first = subst (λ (q : Place). buffer_at q h ≡ None) ready.2 did.ends.0 in
    let second = second-kept (record_place p.store) h before ready.2 same ∙ ready.3 in
    let there = subst (λ (k : InodePlace). IsLoadedAt k h) ready.1 did.ends.1 in
    leaves_changed a.0 start h p.seat still (first, second) c.args.notes.now c.set.new.self note.Nothing c.set.ensures there
