use Rattle.tree_laws.proofs.FreshTree.{fresh_well}
use Rattle.tree_laws.proofs.fresh_trees_are_well_formed.Goals as goal

pub returns : goal.returns
returns c = λ version n low. fresh_well version n low
