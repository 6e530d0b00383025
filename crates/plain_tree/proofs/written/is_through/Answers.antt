use Rattle.plain_tree.proofs.Lemmas.{through_decides}
use Rattle.plain_tree.proofs.written.is_through.Goals as goal

pub returns : goal.returns
returns c = through_decides c.args.call.now c.progress_in.result _ c.is_last.result c.progress_in.ensures c.is_last.ensures
