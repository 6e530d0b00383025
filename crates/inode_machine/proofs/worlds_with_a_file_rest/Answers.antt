-- A world at rest with one open file meets the invariant.
use Rattle.inode_machine.proofs.Opened.{inv, idle}
use Rattle.inode_machine.proofs.worlds_with_a_file_rest.Goals as goal

pub returns : goal.returns
returns c = λ t f v well has. (inv t f v well has, idle t f v well has)
