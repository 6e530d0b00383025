use Rattle.plain_tree.proofs.Lemmas.{refl, sym, ◌∙◌, is_named, any_below, below_true, below_more, below_all}
use Rattle.plain_tree.proofs.tree.Tree.is_named.Goals as goal

pub returns-then-is_named_by : goal.returns-then-is_named_by
unfolding is_named
returns-then-is_named_by c = sym (below_true 8 c.loop-hart.hart _ c.loop-hart-test.true (sym c.is_named_by.ensures ∙ c.if-is_named_by.true))

pub loop-hart-preserved : goal.loop-hart-preserved
loop-hart-preserved c = below_more c.loop-hart.hart _ c.loop-hart.invariant (sym c.is_named_by.ensures ∙ c.if-is_named_by.false)

pub returns : goal.returns
unfolding is_named
returns c = sym (below_all 8 c.loop-hart.hart _ c.loop-hart-test.false c.loop-hart.auto.hart-end c.loop-hart.invariant)

pub loop-hart-init : goal.loop-hart-init
unfolding any_below
loop-hart-init c = refl
