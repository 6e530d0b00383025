use Rattle.tree_laws.proofs.Vocabulary.{tree_of, opened}
use Rattle.tree_laws.proofs.History.{run_ok, opened_ok, NeverClimbs, starts_calm, apart_calm}
use Rattle.tree_laws.proofs.Told.{told_late}
use Rattle.tree_laws.proofs.calls_are_told_late.Goals as goal

pub returns : goal.returns
returns c = λ version base w es h id call told k calm r lt is. told_late version NeverClimbs (tree_of base) w h id call told (run_ok version NeverClimbs (tree_of base) (opened (tree_of base)) w es apart_calm (starts_calm es calm) (opened_ok version NeverClimbs (tree_of base) k) r) lt is
