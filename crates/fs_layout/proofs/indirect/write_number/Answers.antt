use Rattle.fs_layout.proofs.Lemmas.{◌∙◌, ap, arith, numbers_in, u32s_at-write}
use Rattle.fs_layout.proofs.indirect.write_number.Goals as goal

pub returns-clause-numbers : goal.returns-clause-numbers
returns-clause-numbers c =
    ap numbers_in c.put_u32.ensures ∙ u32s_at-write 256 c.args.block.now c.args.place c.args.number c.requires (omega arith) (omega arith)
