use Rattle.image_tree.proofs.Lemmas.{◌∙◌, subst, ℕ, ◌<◌, List, arith, calls_after, held, node_is, one_more, GoodCount}
use Rattle.image_tree.proofs.counts.has_good_counts.Goals as goal

pub loop-i-preserved : goal.loop-i-preserved
loop-i-preserved g c =
    let disk : List (List ℕ) = g.D.Device.contents c.args.device.now in
    let here : GoodCount c.args.layout.now.version (g.D.Device.contents c.loop-i.device) c.loop-i.i = c.in_ok-good.ensures.good.0 c.if-not-good.false in (
      c.in_ok-good.ensures.device.contents ∙ c.loop-i.invariant.0,
      c.in_ok-good.ensures.device.faults ∙ c.loop-i.invariant.1,
      one_more (GoodCount c.args.layout.now.version disk) c.loop-i.i c.loop-i.invariant.2 (subst (λ (d : List (List ℕ)). GoodCount c.args.layout.now.version d c.loop-i.i) c.loop-i.invariant.0 here),
      calls_after c.loop-i.invariant.3 c.in_ok-good.ensures.calls,
    )

pub returns-clause-good : goal.returns-clause-good
returns-clause-good g c =
    held _ (λ i node.
    let is = node_is (g.D.Device.contents c.args.device.now) i node in
    let bound : i < c.args.layout.now.sizes.ninodes = rw c.requires.layout.sizes is.bound in
    c.loop-i.invariant.2 i is.low (omega arith) node)
