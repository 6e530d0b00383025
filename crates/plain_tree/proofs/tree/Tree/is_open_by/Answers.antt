use Rattle.plain_tree.proofs.Lemmas.{refl, sym, ◌∙◌, any_below, below_true, below_more, below_all}
use Rattle.plain_tree.proofs.tree.Tree.is_open_by.Goals as goal

pub returns-then-is_open_at : goal.returns-then-is_open_at
returns-then-is_open_at c = sym (below_true 16 c.loop-fd.fd _ c.loop-fd-test.true (sym c.is_open_at.ensures ∙ c.if-is_open_at.true))

pub loop-fd-preserved : goal.loop-fd-preserved
loop-fd-preserved c = below_more c.loop-fd.fd _ c.loop-fd.invariant (sym c.is_open_at.ensures ∙ c.if-is_open_at.false)

pub returns : goal.returns
returns c = sym (below_all 16 c.loop-fd.fd _ c.loop-fd-test.false c.loop-fd.auto.fd-end c.loop-fd.invariant)

pub loop-fd-init : goal.loop-fd-init
unfolding any_below
loop-fd-init c = refl
