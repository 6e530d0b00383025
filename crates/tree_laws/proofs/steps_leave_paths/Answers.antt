use Rattle.tree_laws.proofs.Frames.{step_frame}
use Rattle.tree_laws.proofs.steps_leave_paths.Goals as goal

pub returns : goal.returns
returns c = step_frame
