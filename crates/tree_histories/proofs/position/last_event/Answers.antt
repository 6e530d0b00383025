use Rattle.tree_histories.proofs.Lemmas.{sym, last_at, last_none}
use Rattle.tree_histories.proofs.position.last_event.Goals as goal

pub returns-in-Some : goal.returns-in-Some
returns-in-Some c = last_at c.args.list.now c.in-Some.entry.now (sym c.in-Some.ensures.value)

pub returns-in-None : goal.returns-in-None
returns-in-None c = last_none c.args.list.now (sym c.in-None.ensures.value)
