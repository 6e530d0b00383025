use Rattle.plain_tree.proofs.Lemmas.{refl, sym, ◌∙◌, any_below, below_true, below_more, below_all}
use Rattle.plain_tree.proofs.tree.Tree.has_descriptor_by.Goals as goal

pub returns-then-is_of : goal.returns-then-is_of
returns-then-is_of c = sym (below_true 16 c.loop-fd.fd _ c.loop-fd-test.true (sym c.is_of.ensures ∙ c.if-is_of.true))

pub loop-fd-preserved : goal.loop-fd-preserved
loop-fd-preserved c = below_more c.loop-fd.fd _ c.loop-fd.invariant (sym c.is_of.ensures ∙ c.if-is_of.false)

pub returns : goal.returns
returns c = sym (below_all 16 c.loop-fd.fd _ c.loop-fd-test.false c.loop-fd.auto.fd-end c.loop-fd.invariant)

pub loop-fd-init : goal.loop-fd-init
unfolding any_below
loop-fd-init c = refl
