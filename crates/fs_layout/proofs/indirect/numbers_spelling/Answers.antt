use Rattle.fs_layout.proofs.Lemmas.{numbers_in-spell, spell-numbers_in}
use Rattle.fs_layout.proofs.indirect.numbers_spelling.Goals as goal

pub returns-clause-reads_back : goal.returns-clause-reads_back
returns-clause-reads_back c = numbers_in-spell

pub returns-clause-only : goal.returns-clause-only
returns-clause-only c = spell-numbers_in
