use Rattle.bench.proofs.Lemmas.{read_so}
use Rattle.bench.proofs.buffers.read.Goals as goal

pub returns-clause-one : goal.returns-clause-one
returns-clause-one g c = read_so c.fill.result c.args.guard.now c.fill.new.guard _ c.args.cache.now.seats c.fill.new.self.seats c.fill.ensures.filled c.fill.ensures.seats c.fill.ensures.err c.requires.one
