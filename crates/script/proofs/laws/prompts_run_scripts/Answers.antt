use Rattle.script.proofs.Lemmas.{run_was_said, runs_so}
use Rattle.script.proofs.laws.prompts_run_scripts.Goals as goal

pub returns : goal.returns
returns c = λ said line read. (runs_so said line read, run_was_said said line)
