use Rattle.image_tree.proofs.Lemmas.{◌∙◌, ◌<◌, ◌≤◌, subst, arith, calls_after, Super, image_next, reclaimed_next, same_next, named_all, are_freed}
use Rattle.image_tree.proofs.freeing.reclaim.Goals as goal

pub returns-in_err-reclaim_at-clause-same : goal.returns-in_err-reclaim_at-clause-same
returns-in_err-reclaim_at-clause-same g c = λ all.
    same_next (g.D.Device.contents c.args.device.now) (g.D.Device.contents c.loop-i.device) (g.D.Device.contents c.reclaim_at.new.device) c.loop-i.i c.loop-i.invariant.to (omega arith)
    (subst (λ (z : Super). c.loop-i.i < z.ninodes) c.requires.sizes (omega arith)) c.in_err-reclaim_at.ensures.same (λ k lo lt. all k)

pub loop-i-preserved : goal.loop-i-preserved
loop-i-preserved g c =
    let d = g.D.Device.contents c.args.device.now in
    let e = g.D.Device.contents c.loop-i.device in
    let n = g.D.Device.contents c.reclaim_at.new.device in
    record {
      faults = c.in_ok-reclaim_at.ensures.faults ∙ c.loop-i.invariant.faults;
      calls = calls_after c.loop-i.invariant.calls c.in_ok-reclaim_at.ensures.calls;
      image = image_next c.args.version d e n c.loop-i.invariant.image c.in_ok-reclaim_at.ensures.sizes c.in_ok-reclaim_at.ensures.well c.in_ok-reclaim_at.ensures.tree;
      empty = c.in_ok-reclaim_at.ensures.empty;
      to = reclaimed_next c.args.version d e n c.loop-i.i c.loop-i.invariant.image.sizes c.loop-i.invariant.image.well (omega arith)
          (subst (λ (z : Super). c.loop-i.i < z.ninodes) c.requires.sizes (omega arith)) c.loop-i.invariant.to c.in_ok-reclaim_at.ensures.done;
    }

pub returns-clause-named : goal.returns-clause-named
returns-clause-named g c =
    let d = g.D.Device.contents c.args.device.now in
    let e = g.D.Device.contents c.loop-i.device in
    named_all d e c.loop-i.i c.loop-i.invariant.image.sizes c.loop-i.invariant.to (subst (λ (z : Super). z.ninodes ≤ c.loop-i.i) c.requires.sizes (omega arith))

pub returns-clause-freed : goal.returns-clause-freed
returns-clause-freed g c =
    let d = g.D.Device.contents c.args.device.now in
    let e = g.D.Device.contents c.loop-i.device in
    are_freed d e c.loop-i.i c.loop-i.invariant.to (subst (λ (z : Super). z.ninodes ≤ c.loop-i.i) c.requires.sizes (omega arith))

pub returns-clause-same : goal.returns-clause-same
returns-clause-same g c = λ all. c.loop-i.invariant.to.same (λ k lo lt. all k)
