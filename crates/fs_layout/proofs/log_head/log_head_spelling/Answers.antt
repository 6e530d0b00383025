use Rattle.fs_layout.proofs.Lemmas.{◌∙◌, ap, sym, [], append-nil, spell_log_head, log_head_of, log_head_of-spell, spell-log_head_of}
use Rattle.fs_layout.proofs.log_head.log_head_spelling.Goals as goal

pub returns-clause-reads_back : goal.returns-clause-reads_back
returns-clause-reads_back c = λ blocks l h. ap log_head_of (sym (append-nil (spell_log_head blocks))) ∙ log_head_of-spell blocks [] l h

pub returns-clause-only : goal.returns-clause-only
returns-clause-only c = spell-log_head_of
