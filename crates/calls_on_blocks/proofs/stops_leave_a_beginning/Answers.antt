use Rattle.calls_on_blocks.proofs.Beginnings.{stops_leave_a_beginning}
use Rattle.calls_on_blocks.proofs.stops_leave_a_beginning.Goals as goal

pub returns : goal.returns
returns c = stops_leave_a_beginning
