use Rattle.tree_laws.proofs.History.{run_explained, NeverClimbs, starts_calm, apart_calm}
use Rattle.tree_laws.proofs.explained.Goals as goal

pub returns : goal.returns
returns c = λ version base w es k calm r. run_explained version NeverClimbs base w es apart_calm (starts_calm es calm) k r
