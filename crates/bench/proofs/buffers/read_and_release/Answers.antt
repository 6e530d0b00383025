use Rattle.bench.proofs.Lemmas.{sym, subst, SeatState, List, HasNone, back_so}
use Rattle.bench.proofs.buffers.read_and_release.Goals as goal

pub returns : goal.returns
returns g c = subst (λ (seats : List SeatState). HasNone seats) (sym c.release.ensures.seats) (back_so c.read.new.guard c.read.new.cache.seats c.read.ensures.one c.read.ensures.held)
