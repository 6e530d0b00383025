-- A world at rest meets the invariant.
use Rattle.inode_machine.proofs.Rest.{rests, idle_at_rest}
use Rattle.inode_machine.proofs.worlds_rest.Goals as goal

pub returns : goal.returns
returns c = λ t well files holds fds. (rests t well files holds fds, idle_at_rest t holds)
