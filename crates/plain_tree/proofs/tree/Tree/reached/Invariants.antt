use Rattle.plain_tree.proofs.Lemmas.{MarksReached, unmarked}
use Rattle.plain_tree.proofs.tree.Tree.reached.Given as goal

abbrev pub invariant-loop-number : goal.invariant-loop-number
invariant-loop-number l = MarksReached l.self l.marks.items

abbrev pub decreases-loop-number : goal.decreases-loop-number
decreases-loop-number l = unmarked l.marks.items
