use Rattle.explain.proofs.OneRun.{any_runs_agree, lists_are_of_each_run, refusals_are_of_each_run}
use Rattle.explain.proofs.history.any_runs_agree.Goals as goal

pub returns : goal.returns
returns c = record { agree = any_runs_agree; lists = lists_are_of_each_run; refusals = refusals_are_of_each_run }
