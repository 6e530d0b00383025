use Rattle.tree_histories.proofs.Lemmas.{sym, subst, Position, IsAt, placed_at_all}
use Rattle.tree_histories.proofs.position.Position.append.Goals as goal
use Rattle.tree_histories.proofs.position.Position.append.Goals.{then-awaits+in_ok-place, else-awaits}

pub loop-hint-preserved : goal.loop-hint-preserved
loop-hint-preserved c =
    let base = c.args.base.now in
    let trace = c.args.trace.now in
    elim c.if-awaits.branch [
      | then-awaits+in_ok-place w ↦ subst (λ (q : Position). IsAt c.args.version base trace q) (sym w.self-is) (placed_at_all c.args.version base trace c.loop-hint.self w.place.new.self _ _ _ _ w.in_ok-place.field-0 w.in_ok-place.ensures)
      | else-awaits w ↦ subst (λ (q : Position). IsAt c.args.version base trace q) (sym w.self-is) c.loop-hint.invariant
    ]
