use Rattle.inode_parts.proofs.Lemmas.{◌≡◌, ◌∙◌, ap, refl, subst, sym, answer_in, InodePlace, beside_new, new_asked, new_left, new_seat, new_value, claim_leaves, claim_on, claim_over}
use Rattle.path_walk.specs.declared.asks.Heard.TheVariants as heard
use Rattle.inode_parts.proofs.changing_inodes.ClaimPartOperation.next.Goals as goal

pub returns-in-None-clause-goes : goal.returns-in-None-clause-goes
returns-in-None-clause-goes c path before ready after =
    let p = c.args.self.now.claim in
    let h = c.next.new.hand in
    let did = c.in-None.ensures in
    claim_on path c.args.notes.now (new_seat p) before h (new_left p before) (answer_in (new_asked p) c.args.answer.now c.args.hand.now) (did.beside before ready after) (new_left c.next.new.self h) (did.goes before ready after)

pub returns-in-Some-clause-goes : goal.returns-in-Some-clause-goes
returns-in-Some-clause-goes c path before ready after =
    let p = c.args.self.now.claim in
    let h = c.next.new.hand in
    let did = c.in-Some.ensures in
    claim_over path c.args.notes.now (new_seat p) before h (new_left p before) (answer_in (new_asked p) c.args.answer.now c.args.hand.now) (did.beside before ready after) (new_value c.in-Some.made h) _ (ap heard.Claimed (c.claimed.ensures h)) (did.goes before ready after)

pub returns-in-None-clause-leaves : goal.returns-in-None-clause-leaves
returns-in-None-clause-leaves c version path inode_type start before amid ready after =
    let h = c.next.new.hand in
    let did = c.in-None.ensures in
    ((amid.0, amid.1, did.about ∙ amid.2, subst (λ (k : InodePlace). beside_new k h ≡ beside_new k start) (sym did.about) (did.beside before ready after ∙ amid.3)), refl)

pub returns-in-Some-clause-leaves : goal.returns-in-Some-clause-leaves
returns-in-Some-clause-leaves c version path inode_type start before amid ready after =
    let h = c.next.new.hand in
    let did = c.in-Some.ensures in
    (claim_leaves (new_seat c.args.self.now.claim) start h amid.2 amid.0 amid.1.0 did.ends.1 (did.beside before ready after ∙ amid.3) c.in-Some.made c.claimed.result did.ends.0 (c.claimed.ensures h), refl)
