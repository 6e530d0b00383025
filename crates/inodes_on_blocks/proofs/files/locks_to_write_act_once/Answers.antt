use Rattle.inodes_on_blocks.proofs.Lemmas.{LockOpen, lock_open, alone, open_acts, alone_laws, alone_keeps, does_it_at}
use Rattle.inodes_on_blocks.proofs.files.locks_to_write_act_once.Goals as goal

pub returns : goal.returns
returns c = λ sizes fd n. does_it_at sizes (LockOpen fd n) (lock_open sizes fd n) (λ h lt m. open_acts sizes alone (alone_laws sizes.version) alone_keeps h lt fd n m)
