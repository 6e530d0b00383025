use Rattle.calls_on_blocks.proofs.Stops.{sizes_stay, stops_leave_images}
use Rattle.calls_on_blocks.proofs.stops_leave_images.Goals as goal

pub returns-clause-images : goal.returns-clause-images
returns-clause-images c = stops_leave_images

pub returns-clause-sizes : goal.returns-clause-sizes
returns-clause-sizes c = sizes_stay
