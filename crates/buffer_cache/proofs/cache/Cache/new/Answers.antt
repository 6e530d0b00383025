use Rattle.buffer_cache.proofs.Lemmas.{sound_unused}
use Rattle.buffer_cache.proofs.cache.Cache.new.Goals as goal

pub invariant_of-result : goal.invariant_of-result
invariant_of-result g c = rw c.requires (sound_unused (g.D.Device.contents c.args.device))
