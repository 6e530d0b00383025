use Rattle.inode_parts.proofs.Lemmas.{dup_runs}
use Rattle.inode_parts.proofs.laws.dup_runs_by_parts.Goals as goal

pub returns : goal.returns
returns c = dup_runs
