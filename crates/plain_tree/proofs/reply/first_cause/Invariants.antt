use Rattle.plain_tree.proofs.Lemmas.{◌≡◌, drop, first_cause, acts_of}
use Rattle.plain_tree.proofs.reply.first_cause.Given as goal

abbrev pub invariant-loop-entry : goal.invariant-loop-entry
invariant-loop-entry l = first_cause (acts_of l.id (drop l.entry-index l.list)) ≡ first_cause (acts_of l.id l.list)
