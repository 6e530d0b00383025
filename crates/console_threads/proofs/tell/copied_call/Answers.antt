use Rattle.console_threads.proofs.Lemmas.{rules}
use Rattle.console_threads.proofs.tell.copied_call.Goals as goal

pub returns : goal.returns
returns c = search (rules, c.clone.ensures.cases)
