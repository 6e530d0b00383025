use Rattle.inode_parts.proofs.Lemmas.{rules, refl, sym, subst, ◌∙◌, ◌<◌, ◌^◌, Query, Take, carry_in, having, IsPart, relock_left, UnderWay, query_in, may_take_by, relocked_by, taken_by}
use Rattle.inode_parts.specs.declared.part.InodePart.TheVariants as part
use Rattle.inode_parts.proofs.part.InodePart.begin_take.Goals as goal

pub begin-requires : goal.begin-requires
begin-requires c =
    let sizes = c.args.sizes.now in
    let n = c.args.number in
    let h = c.args.hand.now in
    let q = query_in c.requires.begins.0 c.args.query in
    let few : n < 2 ^ 32 = search rules in
    record { begins = taken_by sizes n q h c.reference_seat-seat.result c.reference_seat-seat.ensures (sym c.refers_at-there.ensures ∙ c.if-there.true) (may_take_by sizes c.requires.sizes n q h few c.requires.begins.2) }

pub returns-then-there-clause-part : goal.returns-then-there-clause-part
returns-then-there-clause-part c path m begins = c.begin.ensures.part path m

pub returns-then-there-clause-under : goal.returns-then-there-clause-under
returns-then-there-clause-under c path m begins = (c.begin.ensures.amid path, refl)

pub begin-requires-else-there : goal.begin-requires-else-there
begin-requires-else-there c =
    let sizes = c.args.sizes.now in
    let n = c.args.number in
    let h = c.args.hand.now in
    let q = query_in c.requires.begins.0 c.args.query in
    let few : n < 2 ^ 32 = search rules in
    record { begins = (n, (relocked_by sizes n q h c.reference_seat-seat.result c.reference_seat-seat.ensures (sym c.refers_at-there.ensures ∙ c.if-there.false) (may_take_by sizes c.requires.sizes n q h few c.requires.begins.2)).0) }

pub returns-else-there-clause-part : goal.returns-else-there-clause-part
returns-else-there-clause-part c path m begins =
    let sizes = c.args.sizes.now in
    let n = c.args.number in
    let h = c.args.hand.now in
    let q = query_in path c.args.query in
    let few : n < 2 ^ 32 = search rules in
    let has = relocked_by sizes n q h c.reference_seat-seat.result c.reference_seat-seat.ensures (sym c.refers_at-there.ensures ∙ c.if-there.false) (may_take_by sizes c.requires.sizes n q h few begins) in
    subst (λ (q : Query). IsPart sizes (carry_in path m h) (Take n q) (relock_left path m c.begin-else-there.result h)) (sym has.1) (c.begin-else-there.ensures.part path m n has.0)

pub returns-else-there-clause-under : goal.returns-else-there-clause-under
returns-else-there-clause-under c path m begins =
    let sizes = c.args.sizes.now in
    let n = c.args.number in
    let h = c.args.hand.now in
    let q = query_in path c.args.query in
    let few : n < 2 ^ 32 = search rules in
    let has = relocked_by sizes n q h c.reference_seat-seat.result c.reference_seat-seat.ensures (sym c.refers_at-there.ensures ∙ c.if-there.false) (may_take_by sizes c.requires.sizes n q h few begins) in
    subst (λ (q : Query). UnderWay sizes.version path (Take n q) (having h m) (part.Relock c.begin-else-there.result) (having h m)) (sym has.1) ((refl, c.begin-else-there.ensures.amid n has.0), refl)
