use Rattle.tree_laws.proofs.Frames.{step_finds}
use Rattle.tree_laws.proofs.steps_leave_finding.Goals as goal

pub returns : goal.returns
returns c = step_finds
