use Rattle.tree_laws.proofs.Told.{event_tells}
use Rattle.tree_laws.proofs.events_tell_their_hart.Goals as goal

pub returns : goal.returns
returns c = event_tells
