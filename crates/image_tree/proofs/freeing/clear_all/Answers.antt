use Rattle.image_tree.proofs.Lemmas.{cleared_first}
use Rattle.image_tree.proofs.freeing.clear_all.Goals as goal

pub loop-i-init : goal.loop-i-init
loop-i-init c = cleared_first c.args.bitmap.now c.args.numbers.now
