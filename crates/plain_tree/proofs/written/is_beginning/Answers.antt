use Rattle.plain_tree.proofs.Lemmas.{◌+◌, ◌∙◌, refl, subst, sym, Progress, HasCome, none_come, other_come, own_come, follows_none, own_follows, other_follows, all_follow, next_follows}
use Rattle.plain_tree.proofs.written.is_beginning.Goals as goal
use Rattle.plain_tree.proofs.written.is_beginning.Goals.{then-placed-id+else-not-is_next, else-placed-id}

pub loop-placed-init : goal.loop-placed-init
loop-placed-init c = record {
  come = none_come c.args.id c.args.list.now;
  follows = follows_none c.args.call.now c.args.id c.args.list.now;
}

pub loop-placed-preserved : goal.loop-placed-preserved
loop-placed-preserved c =
    let id = c.args.id in
    let list = c.args.list.now in
    let i = c.loop-placed.placed-index in
    let p = c.loop-placed.progress in
    let e = c.placed-item.result in
    let lt = c.loop-placed-test.true in
    let is = c.placed-item.is in
    let come = c.loop-placed.invariant.come in
    let follows = c.loop-placed.invariant.follows in
    elim c.if-placed-id.branch [
      | then-placed-id+else-not-is_next w ↦ record {
        come = own_come p c.if-placed-id.progress id list i e lt is w.if-placed-id.true (w.progress-is ∙ w.after-progress.ensures) come;
        follows = own_follows c.args.call.now p id list i e lt is w.if-placed-id.true come follows (w.is_next.ensures.0 w.if-not-is_next.false);
      }
      | else-placed-id w ↦ record {
        come = subst (λ (q : Progress). HasCome q id list (i + 1)) (sym w.progress-is) (other_come p id list i e lt is w.if-placed-id.false come);
        follows = other_follows c.args.call.now id list i e lt is w.if-placed-id.false follows;
      }
    ]

pub returns-then-not-is_next : goal.returns-then-not-is_next
returns-then-not-is_next c =
    (λ e. absurd cc, λ f. sym c.if-not-is_next.true ∙ c.is_next.ensures.1 (next_follows c.args.call.now c.loop-placed.progress c.args.id c.args.list.now c.loop-placed.placed-index c.placed-item.result c.loop-placed-test.true c.placed-item.is c.if-placed-id.true c.loop-placed.invariant.come f))

pub returns : goal.returns
returns c = (λ e. all_follow c.args.call.now c.args.id c.args.list.now c.loop-placed.placed-index c.loop-placed-test.false c.loop-placed.invariant.follows, λ f. refl)
