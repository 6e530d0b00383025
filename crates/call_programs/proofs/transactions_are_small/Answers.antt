use Rattle.call_programs.proofs.Budgets.{transactions_are_small}
use Rattle.call_programs.proofs.transactions_are_small.Goals as goal

pub returns : goal.returns
returns c = transactions_are_small
