use Rattle.plain_tree.proofs.Lemmas.{◌≡◌, drop, acts_of}
use Rattle.plain_tree.proofs.reply.first_answer.Given as goal

abbrev pub invariant-loop-entry : goal.invariant-loop-entry
invariant-loop-entry l = acts_of l.id (drop l.entry-index l.list) ≡ acts_of l.id l.list
