use Rattle.run_laws.proofs.Refined.{runs_refine}
use Rattle.run_laws.proofs.runs_refine_whole_inodes.Goals as goal

pub returns : goal.returns
returns c = runs_refine
