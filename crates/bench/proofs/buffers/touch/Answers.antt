use Rattle.bench.proofs.Lemmas.{got_so}
use Rattle.bench.proofs.buffers.touch.Goals as goal

pub read_and_release-requires-clause-one : goal.read_and_release-requires-clause-one
read_and_release-requires-clause-one g c =
    (got_so c.args.b c.args.cache.now.seats c.requires _ c.device.ensures.sound.once c.in-Held.ensures.gives, c.in-Held.ensures.held.0)

pub returns-in-Waits : goal.returns-in-Waits
returns-in-Waits g c = got_so c.args.b c.args.cache.now.seats c.requires _ c.device.ensures.sound.once c.in-Waits.ensures.gives
