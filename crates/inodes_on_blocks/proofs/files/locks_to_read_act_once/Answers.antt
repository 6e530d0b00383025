use Rattle.inodes_on_blocks.proofs.Lemmas.{LockFile, lock_file, alone, file_acts, alone_laws, alone_keeps, does_it_at}
use Rattle.inodes_on_blocks.proofs.files.locks_to_read_act_once.Goals as goal

pub returns : goal.returns
returns c = λ sizes fd. does_it_at sizes (LockFile fd) (lock_file sizes fd) (λ h lt m. file_acts sizes alone (alone_laws sizes.version) alone_keeps h lt fd m)
