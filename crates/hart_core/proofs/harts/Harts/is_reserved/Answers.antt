use Rattle.hart_core.proofs.Lemmas.{refl, sym, ◌∙◌, any_below, below_true, below_more, below_all}
use Rattle.hart_core.proofs.harts.Harts.is_reserved.Goals as goal

pub returns-then-reserves : goal.returns-then-reserves
returns-then-reserves g c = sym (below_true 8 c.loop-other.other _ c.loop-other-test.true (sym c.reserves.ensures ∙ c.if-reserves.true))

pub loop-other-preserved : goal.loop-other-preserved
loop-other-preserved g c = below_more c.loop-other.other _ c.loop-other.invariant (sym c.reserves.ensures ∙ c.if-reserves.false)

pub returns : goal.returns
returns g c = sym (below_all 8 c.loop-other.other _ c.loop-other-test.false c.loop-other.auto.other-end c.loop-other.invariant)

pub loop-other-init : goal.loop-other-init
unfolding any_below
loop-other-init g c = refl
