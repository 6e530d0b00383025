use Rattle.plain_tree.proofs.Lemmas.{◌∙◌, ap, sym, first_answer, acts_own, acts_other, acts_end}
use Rattle.plain_tree.proofs.reply.first_answer.Goals as goal

pub returns-then-entry-id : goal.returns-then-entry-id
returns-then-entry-id c = ap (λ x. first_answer x) (sym c.loop-entry.invariant ∙ acts_own c.args.id c.args.list.now c.loop-entry.entry-index c.entry-item.result c.loop-entry-test.true c.entry-item.is c.if-entry-id.true)

pub loop-entry-preserved : goal.loop-entry-preserved
loop-entry-preserved c = sym (acts_other c.args.id c.args.list.now c.loop-entry.entry-index c.entry-item.result c.loop-entry-test.true c.entry-item.is c.if-entry-id.false) ∙ c.loop-entry.invariant

pub returns : goal.returns
returns c = ap (λ x. first_answer x) (sym c.loop-entry.invariant ∙ acts_end c.args.id c.args.list.now c.loop-entry.entry-index c.loop-entry-test.false)
