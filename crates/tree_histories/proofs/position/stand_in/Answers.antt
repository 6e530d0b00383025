use Rattle.tree_histories.proofs.Lemmas.{◌∙◌, ap, arith, Stand, after, stand_none, stand_other, stand_own}
use Rattle.tree_histories.proofs.position.stand_in.Goals as goal
use Rattle.tree_histories.proofs.position.stand_in.Goals.{then-placed-id, else-placed-id}

pub loop-placed-init : goal.loop-placed-init
loop-placed-init c = record { is = stand_none c.args.id; bound = omega arith }

pub loop-placed-preserved : goal.loop-placed-preserved
loop-placed-preserved c = elim c.if-placed-id.branch [
  | then-placed-id w ↦ record {
    is = w.stand-is ∙ (w.after-stand.ensures ∙ (ap (λ (s : Stand). after s c.placed-item.result.answer) c.loop-placed.invariant.is ∙ stand_own c.args.id c.args.list.now c.loop-placed.placed-index c.placed-item.result c.loop-placed-test.true c.placed-item.is w.if-placed-id.true));
    bound = omega (arith, ap (λ (s : Stand). s.count) (w.stand-is ∙ w.after-stand.ensures), c.loop-placed.invariant.bound);
  }
  | else-placed-id w ↦ record {
    is = w.stand-is ∙ (c.loop-placed.invariant.is ∙ stand_other c.args.id c.args.list.now c.loop-placed.placed-index c.placed-item.result c.loop-placed-test.true c.placed-item.is w.if-placed-id.false);
    bound = omega (arith, ap (λ (s : Stand). s.count) w.stand-is, c.loop-placed.invariant.bound);
  }
]
