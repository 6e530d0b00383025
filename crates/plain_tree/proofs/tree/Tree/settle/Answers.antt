use Rattle.plain_tree.proofs.Lemmas.{refl, sym, ◌∙◌, ap, length, TreeData, tree_of, step_kept, step_gone, settle_none, settle_end}
use Rattle.plain_tree.proofs.tree.Tree.settle.Goals as goal
use Rattle.plain_tree.proofs.tree.Tree.settle.Goals.{then-is_lost, else-is_lost}

pub loop-number-init : goal.loop-number-init
loop-number-init c = (sym (settle_none _), refl)

pub loop-number-preserved : goal.loop-number-preserved
loop-number-preserved c = elim c.if-is_lost.branch [
  | then-is_lost w ↦ (ap tree_of w.self-is ∙ step_gone (tree_of c.loop-number.self) (tree_of w.drop_node.new.self) (tree_of c.args.self.now) c.loop-number.number c.loop-number.invariant.0 w.drop_node.ensures.tree (sym c.is_lost.ensures ∙ w.if-is_lost.true), ap (λ (d : TreeData). length d.nodes) w.self-is ∙ (w.drop_node.ensures.table ∙ c.loop-number.invariant.1))
  | else-is_lost w ↦ (ap tree_of w.self-is ∙ step_kept (tree_of c.loop-number.self) (tree_of c.args.self.now) c.loop-number.number c.loop-number.invariant.0 (sym c.is_lost.ensures ∙ w.if-is_lost.false), ap (λ (d : TreeData). length d.nodes) w.self-is ∙ c.loop-number.invariant.1)
]

pub returns : goal.returns
returns c = settle_end (tree_of c.loop-number.self) c.args.self.now c.table_len-number-end.result c.loop-number.number c.loop-number.invariant.0 c.table_len-number-end.ensures c.loop-number-test.false c.loop-number.auto.number-end
