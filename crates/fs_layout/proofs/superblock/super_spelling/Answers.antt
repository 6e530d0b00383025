use Rattle.fs_layout.proofs.Lemmas.{◌∙◌, ap, sym, [], append-nil, spell_super, super_of, super_of-spell, spell-super_of, super_of-has, super_of-version}
use Rattle.fs_layout.proofs.superblock.super_spelling.Goals as goal

pub returns-clause-reads_back : goal.returns-clause-reads_back
returns-clause-reads_back c = λ s h. ap (super_of s.version) (sym (append-nil (spell_super s))) ∙ super_of-spell s [] h

pub returns-clause-only : goal.returns-clause-only
returns-clause-only c = spell-super_of

pub returns-clause-of_version : goal.returns-clause-of_version
returns-clause-of_version c = super_of-has

pub returns-clause-version : goal.returns-clause-version
returns-clause-version c = super_of-version
