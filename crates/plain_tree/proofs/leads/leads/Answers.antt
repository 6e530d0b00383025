use Rattle.plain_tree.proofs.Lemmas.{refl, arith, tree_of, leads_more, leads_not, leads_end}
use Rattle.plain_tree.proofs.leads.leads.Goals as goal

pub returns-then-not-branch : goal.returns-then-not-branch
returns-then-not-branch c = (λ y. absurd cc, λ x. absurd (leads_not c.args.version c.in_ok-lead_on.field-0 (tree_of c.loop-entry.tree) (tree_of c.lead_on.new.self) (tree_of c.args.base.now) c.args.list.now c.loop-entry.entry-index c.entry-item.result (omega arith) c.entry-item.is c.if-not-branch.true c.in_ok-lead_on.ensures c.loop-entry.invariant x))

pub loop-entry-preserved : goal.loop-entry-preserved
loop-entry-preserved c = leads_more c.args.version c.in_ok-lead_on.field-0 (tree_of c.loop-entry.tree) (tree_of c.lead_on.new.self) (tree_of c.args.base.now) c.args.list.now c.loop-entry.entry-index c.entry-item.result (omega arith) c.entry-item.is c.if-not-branch.false c.in_ok-lead_on.ensures c.loop-entry.invariant

pub returns : goal.returns
returns c = (λ y. leads_end c.args.version (tree_of c.loop-entry.tree) (tree_of c.args.base.now) c.args.list.now c.loop-entry.entry-index (omega arith) c.loop-entry.invariant, λ x. refl)
