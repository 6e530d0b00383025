use Rattle.tree_laws.proofs.Vocabulary.{tree_of, opened}
use Rattle.tree_laws.proofs.History.{run_ok, opened_ok, NeverClimbs, starts_calm, apart_calm}
use Rattle.tree_laws.proofs.lists_lead_to_the_tree.Goals as goal

pub returns : goal.returns
returns c = λ version base w es k calm r. let inv = run_ok version NeverClimbs (tree_of base) (opened (tree_of base)) w es apart_calm (starts_calm es calm) (opened_ok version NeverClimbs (tree_of base) k) r in (inv.book.chain, inv.good)
