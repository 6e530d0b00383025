use Rattle.plain_tree.proofs.Lemmas.{◌+◌, ◌∙◌, subst, sym, Progress, HasCome, all_come, none_come, other_come, own_come}
use Rattle.plain_tree.proofs.progress.progress_in.Goals as goal
use Rattle.plain_tree.proofs.progress.progress_in.Goals.{then-placed-id, else-placed-id}

pub loop-placed-init : goal.loop-placed-init
loop-placed-init c = none_come c.args.id c.args.list.now

pub loop-placed-preserved : goal.loop-placed-preserved
loop-placed-preserved c =
    let e = c.placed-item.result in
    let come = c.loop-placed.invariant in
    elim c.if-placed-id.branch [
      | then-placed-id w ↦ own_come c.loop-placed.progress c.if-placed-id.progress c.args.id c.args.list.now c.loop-placed.placed-index e c.loop-placed-test.true c.placed-item.is w.if-placed-id.true (w.progress-is ∙ w.after-progress.ensures) come
      | else-placed-id w ↦ subst (λ (p : Progress). HasCome p c.args.id c.args.list.now (c.loop-placed.placed-index + 1)) (sym w.progress-is) (other_come c.loop-placed.progress c.args.id c.args.list.now c.loop-placed.placed-index e c.loop-placed-test.true c.placed-item.is w.if-placed-id.false come)
    ]

pub returns : goal.returns
returns c = all_come c.loop-placed.progress c.args.id c.args.list.now c.loop-placed.placed-index c.loop-placed-test.false c.loop-placed.invariant
