use Rattle.buffer_cache.proofs.Lemmas.{has_block, once_of}
use Rattle.buffer_cache.proofs.buffers.Buffers.get.Goals as goal

pub get_in-requires-clause-once : goal.get_in-requires-clause-once
get_in-requires-clause-once c = once_of c.self.inside.seats.items c.self.inside.order c.args.self.now (has_block c.args.b) c.self.invariant.kept.ordered c.self.view_is c.requires.once
