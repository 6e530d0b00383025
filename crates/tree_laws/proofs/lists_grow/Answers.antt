use Rattle.tree_laws.proofs.Cut.{grows}
use Rattle.tree_laws.proofs.lists_grow.Goals as goal

pub returns : goal.returns
returns c = λ version t w w' es later r s. grows version t w w' es later r s
