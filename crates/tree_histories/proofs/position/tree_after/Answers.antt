use Rattle.tree_histories.proofs.Lemmas.{[], subst, sym, Chain, TreeData, tree_of, chain_none, leads_next}
use Rattle.tree_histories.proofs.position.tree_after.Goals as goal

pub loop-entry-init : goal.loop-entry-init
loop-entry-init c = subst (λ (d : TreeData). Chain c.args.version (tree_of c.args.base.now) [] (tree_of d)) (sym c.in_ok-tree.ensures) (chain_none c.args.version (tree_of c.args.base.now))

pub loop-entry-preserved : goal.loop-entry-preserved
loop-entry-preserved c = leads_next c.args.version (tree_of c.args.base.now) (tree_of c.loop-entry.tree) (tree_of c.apply.new.self) c.args.list.now c.loop-entry.entry-index c.entry-item.result c.in-Ok.field-0 c.loop-entry-test.true c.entry-item.is c.requires c.loop-entry.invariant c.in-Ok.ensures
