use Rattle.tree_laws.proofs.Frames.{new_is_nobodys}
use Rattle.tree_laws.proofs.new_numbers_are_nobodys.Goals as goal

pub returns : goal.returns
returns c = λ t n k none. new_is_nobodys t n k none
