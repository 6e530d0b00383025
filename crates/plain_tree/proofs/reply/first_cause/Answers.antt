use Rattle.plain_tree.proofs.Lemmas.{◌∙◌, ap, sym, first_cause, acts_other, cause_own, cause_on, cause_end}
use Rattle.plain_tree.proofs.reply.first_cause.Goals as goal
use Rattle.plain_tree.proofs.reply.first_cause.Goals.{then-entry-id+in-None, else-entry-id}

pub returns-in-Some : goal.returns-in-Some
returns-in-Some c = cause_own c.args.id c.args.list.now c.loop-entry.entry-index c.entry-item.result c.in-Some.cause c.loop-entry-test.true c.entry-item.is c.if-entry-id.true (sym c.in-Some.is ∙ c.cause_of.ensures) c.loop-entry.invariant

pub loop-entry-preserved : goal.loop-entry-preserved
loop-entry-preserved c = elim c.if-entry-id.branch [
  | then-entry-id+in-None w ↦ cause_on c.args.id c.args.list.now c.loop-entry.entry-index c.entry-item.result c.loop-entry-test.true c.entry-item.is w.if-entry-id.true (sym w.in-None.is ∙ w.cause_of.ensures) c.loop-entry.invariant
  | else-entry-id w ↦ ap first_cause (sym (acts_other c.args.id c.args.list.now c.loop-entry.entry-index c.entry-item.result c.loop-entry-test.true c.entry-item.is w.if-entry-id.false)) ∙ c.loop-entry.invariant
]

pub returns : goal.returns
returns c = cause_end c.args.id c.args.list.now c.loop-entry.entry-index c.loop-entry-test.false c.loop-entry.invariant
