use Rattle.fs_layout.proofs.Lemmas.{◌≡◌, ◌∙◌, ap, arith, numbers_in, spell_numbers, whole-overwrite, numbers_in-spell}
use Rattle.fs_layout.proofs.indirect.write_numbers.Goals as goal

written : (c : goal.After-put_u32s) → c.put_u32s.new.bytes ≡ spell_numbers c.args.numbers.now
written c = c.put_u32s.ensures.bytes ∙ whole-overwrite c.args.block.now c.args.numbers.now (omega arith) (omega arith)

pub returns-clause-bytes : goal.returns-clause-bytes
returns-clause-bytes c = written c

pub returns-clause-reads_back : goal.returns-clause-reads_back
returns-clause-reads_back c = ap numbers_in (written c) ∙ numbers_in-spell c.args.numbers.now (omega arith) c.put_u32s.ensures.fits
