use Rattle.plain_tree.proofs.Lemmas.{drop, tree_of, LeadsSame}
use Rattle.plain_tree.proofs.leads.leads.Given as goal

abbrev pub invariant-loop-entry : goal.invariant-loop-entry
invariant-loop-entry l = LeadsSame l.version (tree_of l.tree) (drop l.entry-index l.list) (tree_of l.base) l.list
