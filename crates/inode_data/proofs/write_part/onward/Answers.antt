use Rattle.inode_data.proofs.Lemmas.{◌∙◌, sym, ends_there}
use Rattle.inode_data.proofs.write_part.onward.Goals as goal

pub returns-then-writing-eq0-clause-program : goal.returns-then-writing-eq0-clause-program
returns-then-writing-eq0-clause-program c bytes h = c.store.ensures.program bytes h ∙ sym (ends_there c.args.writing.now c.args.so_far.now bytes c.if-writing-eq0.true)
