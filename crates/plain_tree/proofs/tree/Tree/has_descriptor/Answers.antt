use Rattle.plain_tree.proofs.Lemmas.{refl, sym, ◌∙◌, has_fd, any_below, below_true, below_more, below_all}
use Rattle.plain_tree.proofs.tree.Tree.has_descriptor.Goals as goal

pub returns-then-has_descriptor_by : goal.returns-then-has_descriptor_by
unfolding has_fd
returns-then-has_descriptor_by c = sym (below_true 8 c.loop-hart.hart _ c.loop-hart-test.true (sym c.has_descriptor_by.ensures ∙ c.if-has_descriptor_by.true))

pub loop-hart-preserved : goal.loop-hart-preserved
loop-hart-preserved c = below_more c.loop-hart.hart _ c.loop-hart.invariant (sym c.has_descriptor_by.ensures ∙ c.if-has_descriptor_by.false)

pub returns : goal.returns
unfolding has_fd
returns c = sym (below_all 8 c.loop-hart.hart _ c.loop-hart-test.false c.loop-hart.auto.hart-end c.loop-hart.invariant)

pub loop-hart-init : goal.loop-hart-init
unfolding any_below
loop-hart-init c = refl
