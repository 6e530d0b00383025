use Rattle.image_tree.proofs.Lemmas.{arith, tally_in}
use Rattle.damage_places.proofs.tallies.tally.Goals as goal

pub returns-then-place-table : goal.returns-then-place-table
returns-then-place-table c =
    λ xs t.
    let e = c.saturating_add.ensures in
    tally_in c.args.table.now xs c.args.n c.saturating_add.result c.if-place-table.true (omega arith) t
