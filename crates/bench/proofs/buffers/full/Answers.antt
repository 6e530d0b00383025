use Rattle.bench.proofs.Lemmas.{sym, subst, HasNone, none_unused}
use Rattle.bench.proofs.buffers.full.Goals as goal

pub loop-b-init : goal.loop-b-init
loop-b-init c = subst (λ cache. HasNone cache.seats) (sym c.new-cache.ensures) (none_unused 0 46)
