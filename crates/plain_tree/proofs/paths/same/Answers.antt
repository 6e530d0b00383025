use Rattle.plain_tree.proofs.Lemmas.{◌∙◌, same_pointwise}
use Rattle.plain_tree.proofs.paths.same.Goals as goal

pub returns : goal.returns
returns c = c.eq.ensures ∙ same_pointwise _ _
