use Rattle.inode_parts.proofs.Lemmas.{ℕ, ap, refl, ◌∙◌, P, Loaded, lock_loaded, lock_seat, comes_first, take_asks, take_is_part}
use Rattle.inode_parts.proofs.take_part.TakePart.begin.Goals as goal

pub returns-clause-part : goal.returns-clause-part
returns-clause-part c path m =
    let sizes = c.args.sizes.now in
    let h = c.args.hand.now in
    let r = c.new-lock.result in
    let k = c.reference_seat-seat.result in
    let has = take_asks sizes c.args.number k (lock_seat r) h c.reference_seat-seat.ensures c.new-lock.ensures.seat c.requires.begins in
    let here = take_asks sizes c.args.number k k h c.reference_seat-seat.ensures refl c.requires.begins in
    take_is_part sizes path m c.args.number c.args.query h r (c.new-lock.ensures.program h ∙ ap (λ (n : ℕ). let p : P Loaded = lock_loaded sizes.inodestart n in p) here.3) has.3 has.4

pub returns-clause-ready : goal.returns-clause-ready
returns-clause-ready c =
    let h = c.args.hand.now in
    let has = take_asks c.args.sizes.now c.args.number c.reference_seat-seat.result (lock_seat c.new-lock.result) h c.reference_seat-seat.ensures c.new-lock.ensures.seat c.requires.begins in
    (c.new-lock.ensures.ready h has.0 has.1 c.requires.begins.3.0 has.2, has.5, c.requires.begins.3.1)

pub returns-clause-amid : goal.returns-clause-amid
returns-clause-amid c path =
    let h = c.args.hand.now in
    let k = c.reference_seat-seat.result in
    let l = lock_seat c.new-lock.result in
    let has = take_asks c.args.sizes.now c.args.number k l h c.reference_seat-seat.ensures c.new-lock.ensures.seat c.requires.begins in
    (c.requires.begins.0, c.new-lock.ensures.seat ∙ c.reference_seat-seat.ensures, refl, comes_first l h has.4 c.requires.begins.3.0, refl)
