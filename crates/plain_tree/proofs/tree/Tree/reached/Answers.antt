use Rattle.plain_tree.proofs.Lemmas.{arith, ap, tree_of, first_marked, none_marked, next_fewer, next_marks, closed_all}
use Rattle.plain_tree.proofs.tree.Tree.reached.Goals as goal
use Rattle.plain_tree.proofs.tree.Tree.reached.Goals.{then-from-len, else-from-len}

pub loop-number-init : goal.loop-number-init
loop-number-init c = elim c.if-from-len.branch [
  | then-from-len w ↦ first_marked c.args.self.now c.if-from-len.marks.items c.in_ok-marks.marks.items c.table_len.result w.from-then-from-len.result (ap (λ v. v.items) w.marks-is) c.in_ok-marks.ensures c.table_len.ensures w.from-then-from-len.ensures
  | else-from-len w ↦ none_marked c.args.self.now c.if-from-len.marks.items c.in_ok-marks.marks.items c.table_len.result c.from.result c.len.result (ap (λ v. v.items) w.marks-is) c.in_ok-marks.ensures c.table_len.ensures c.from.ensures (omega arith) w.if-from-len.false
]

pub loop-number-smaller : goal.loop-number-smaller
loop-number-smaller c = next_fewer (tree_of c.args.self.now) c.loop-number.marks.items c.deref.result.now c.in-Some.number c.from-in-Some.result c.deref.ensures.value c.from-in-Some.ensures c.in-Some.ensures

pub loop-number-preserved : goal.loop-number-preserved
loop-number-preserved c = next_marks c.args.self.now c.loop-number.marks.items c.deref.result.now c.in-Some.number c.from-in-Some.result c.deref.ensures.value c.from-in-Some.ensures c.loop-number.invariant c.in-Some.ensures

pub returns : goal.returns
returns c = closed_all c.args.self.now c.loop-number.marks.items c.deref.result.now c.deref.ensures.value c.loop-number.invariant c.in_default.ensures
