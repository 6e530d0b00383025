use Rattle.inodes_on_blocks.proofs.Lemmas.{ReadFile, read_file, alone, read_acts, alone_laws, alone_keeps, does_it_at}
use Rattle.inodes_on_blocks.proofs.files.reads_act_once.Goals as goal

pub returns : goal.returns
returns c = λ sizes fd n offset count. does_it_at sizes (ReadFile fd n offset count) (read_file fd n offset count) (λ h lt m. read_acts sizes alone (alone_laws sizes.version) alone_keeps h lt fd n offset count m)
