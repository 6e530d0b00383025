use Rattle.tree_histories.proofs.Lemmas.{stage_of, lost_more}
use Rattle.tree_histories.proofs.kept.Kept.lost.Goals as goal

pub loop-hart-preserved : goal.loop-hart-preserved
loop-hart-preserved c = lost_more (stage_of c.args.self.now) c.loop-hart.lost c.loop-hart.hart c.from.result c.is_lost.result c.from.ensures c.loop-hart-test.true c.is_lost.ensures c.loop-hart.invariant
