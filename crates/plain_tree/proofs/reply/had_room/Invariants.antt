use Rattle.plain_tree.proofs.Lemmas.{◌≡◌, drop, had_room, acts_of}
use Rattle.plain_tree.proofs.reply.had_room.Given as goal

abbrev pub invariant-loop-entry : goal.invariant-loop-entry
invariant-loop-entry l = had_room (acts_of l.id (drop l.entry-index l.list)) ≡ had_room (acts_of l.id l.list)
