use Rattle.tree_histories.proofs.Lemmas.{tree_of, asks, whole_of, seen_take}
use Rattle.tree_histories.proofs.kept.seen.Goals as goal

pub returns-in-Take : goal.returns-in-Take
returns-in-Take c listed fits =
    let w = c.args.standing.now.whole in
    seen_take c.args.version (tree_of c.args.tree.now) w c.in-Take.number c.in-Take.query c.paths.result.0.now c.paths.result.1.now c.sight.result (asks (whole_of c.args.version listed w))
    (c.in-Take.ensures.asks c.args.version listed fits) (c.in-Take.ensures.named c.args.version listed fits) c.paths.ensures.0 c.paths.ensures.1 c.sight.ensures
