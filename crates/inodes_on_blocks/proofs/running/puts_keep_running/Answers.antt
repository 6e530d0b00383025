use Rattle.inodes_on_blocks.proofs.Lemmas.{puts_keep}
use Rattle.inodes_on_blocks.proofs.running.puts_keep_running.Goals as goal

pub returns : goal.returns
returns c = λ disk new nodes owner owner' left changing joined i g h is others sizes front whole owners.
    puts_keep disk nodes owner left changing joined h new owner' i g is others sizes front whole owners
